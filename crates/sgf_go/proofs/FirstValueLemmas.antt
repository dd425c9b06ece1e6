-- The first property of a name, one property after the other.
use Rattle.std.proofs.Common.{ℕ, ◌+◌, ◌<◌, ◌≤◌, ◌≡◌, List, [], length, drop, get_or, ◌∙◌, ap, true, false, Some, None}
use Rattle.std.specs.Prelude.{map, if◌then◌else◌}
use Rattle.std.proofs.lemmas.List.{drop_more, drop_all}
use Rattle.std.specs.Str.{bytes_eq}
use Rattle.sgf_go.specs.Values.{trimmed}
use Rattle.sgf_go.specs.Setup.{value_of}
use Rattle.sgf_tree.specs.Reading.{property_text}
use Rattle.sgf_tree.specs.declared.tree.Property.{Property}

-- the value of a name, by what stands at a place
pub value_here : (name : List ℕ) (ps : List Property) (at : ℕ) (d : Property) → at < length ps → bytes_eq (get_or ps at d).name.items name ≡ true
    → value_of name (map property_text (drop at ps)) ≡ Some (trimmed (get_or (property_text (get_or ps at d)).values 0 []))
value_here name ps at d h e = ap (λ x. value_of name (map property_text x)) (drop_more ps at d h) ∙ ap (λ b. if b then Some (trimmed (get_or (property_text (get_or ps at d)).values 0 [])) else value_of name (map property_text (drop (at + 1) ps))) e

pub value_on : (name : List ℕ) (ps : List Property) (at : ℕ) (d : Property) → at < length ps → bytes_eq (get_or ps at d).name.items name ≡ false
    → value_of name (map property_text (drop at ps)) ≡ value_of name (map property_text (drop (at + 1) ps))
value_on name ps at d h e = ap (λ x. value_of name (map property_text x)) (drop_more ps at d h) ∙ ap (λ b. if b then Some (trimmed (get_or (property_text (get_or ps at d)).values 0 [])) else value_of name (map property_text (drop (at + 1) ps))) e

pub value_none : (name : List ℕ) (ps : List Property) (at : ℕ) → length ps ≤ at → value_of name (map property_text (drop at ps)) ≡ None
value_none name ps at h = ap (λ x. value_of name (map property_text x)) (drop_all at ps h)
