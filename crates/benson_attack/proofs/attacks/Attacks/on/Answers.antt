use Rattle.go_grid.specs.declared.grid.Colour.TheVariants.{Black, White}
use Rattle.benson_attack.proofs.AttackLemmas.{attacks, opens, lives}
use Rattle.benson_attack.proofs.attacks.Attacks.on.Goals as goal

pub returns-in-Some-Black-clause-open : goal.returns-in-Some-Black-clause-open
returns-in-Some-Black-clause-open c = opens c.args.board.now _ Black c.args.self.now.on_black.by c.args.stone c.in-Some-Black.field-0-is c.in-Some-Black.ensures c.requires.attacks.by_white
    c.on.result (λ v. v.items) c.requires.settled c.on.ensures.taken

pub returns-in-Some-Black-clause-attack : goal.returns-in-Some-Black-clause-attack
returns-in-Some-Black-clause-attack c = attacks c.args.board.now _ Black c.args.self.now.on_black.by c.args.stone c.in-Some-Black.field-0-is c.in-Some-Black.ensures c.requires.attacks.by_white
    c.on.result (λ v. v.items) c.on.ensures.taken

pub returns-in-Some-Black-clause-alive : goal.returns-in-Some-Black-clause-alive
returns-in-Some-Black-clause-alive c = λ e. lives c.args.board.now _ Black c.args.self.now.on_black.by c.args.stone c.in-Some-Black.field-0-is c.in-Some-Black.ensures c.requires.attacks.by_white
    (c.on.ensures.alive e)

pub returns-in-Some-White-clause-open : goal.returns-in-Some-White-clause-open
returns-in-Some-White-clause-open c = opens c.args.board.now _ White c.args.self.now.on_white.by c.args.stone c.in-Some-White.field-0-is c.in-Some-White.ensures c.requires.attacks.by_black
    c.on-in-Some-White.result (λ v. v.items) c.requires.settled c.on-in-Some-White.ensures.taken

pub returns-in-Some-White-clause-attack : goal.returns-in-Some-White-clause-attack
returns-in-Some-White-clause-attack c = attacks c.args.board.now _ White c.args.self.now.on_white.by c.args.stone c.in-Some-White.field-0-is c.in-Some-White.ensures c.requires.attacks.by_black
    c.on-in-Some-White.result (λ v. v.items) c.on-in-Some-White.ensures.taken

pub returns-in-Some-White-clause-alive : goal.returns-in-Some-White-clause-alive
returns-in-Some-White-clause-alive c = λ e. lives c.args.board.now _ White c.args.self.now.on_white.by c.args.stone c.in-Some-White.field-0-is c.in-Some-White.ensures c.requires.attacks.by_black
    (c.on-in-Some-White.ensures.alive e)
