-- Small games.
use Rattle.short_games.specs.Tree.{Tree, node, none, more}

-- the game {L|R}, with one option on each side
abbrev pub choice : Tree → Tree → Tree
choice L R = node (more L none) (more R none)

-- 0 is {|}
abbrev pub zero : Tree
zero = node none none

-- 1 is {0|}
abbrev pub one : Tree
one = node (more zero none) none

-- 2 is {1|}
abbrev pub two : Tree
two = node (more one none) none

-- -2 is {|-1}
abbrev pub minus_two : Tree
minus_two = node none (more (node none (more zero none)) none)

-- 3 is {2|}
abbrev pub three : Tree
three = node (more two none) none

-- 4 is {3|}
abbrev pub four : Tree
four = node (more three none) none

-- -1 is {|0}
abbrev pub minus_one : Tree
minus_one = node none (more zero none)

-- 1/2 is {0|1}
abbrev pub half : Tree
half = choice zero one

-- -1/2 is {-1|0}
abbrev pub minus_half : Tree
minus_half = choice minus_one zero

-- 3/4 is {1/2|1}
abbrev pub three_quarters : Tree
three_quarters = choice half one

-- -5/8 is {-3/4|-1/2}, where -3/4 is {-1|-1/2}
abbrev pub minus_five_eighths : Tree
minus_five_eighths = choice (choice minus_one minus_half) minus_half

-- star is {0|0}
abbrev pub star : Tree
star = choice zero zero

-- up is {0|star}
abbrev pub up : Tree
up = choice zero star

-- {2|0}, with a move of 1 for each side
abbrev pub two_switch : Tree
two_switch = choice two zero

-- {2|-1}, with a move of 3/2 for each side
abbrev pub uneven_switch : Tree
uneven_switch = choice two minus_one

-- {4||2|0}, with a move of 3/2 for each side
abbrev pub two_steps : Tree
two_steps = choice four two_switch

-- tiny-two is {0||0|-2}
abbrev pub tiny : Tree
tiny = choice zero (choice zero minus_two)

-- the nimber of 2 is {0,star|0,star}
abbrev pub star_two : Tree
star_two = node (more zero (more star none)) (more zero (more star none))
