use Rattle.std.proofs.Common.{inl, inr, sym, refl}
use Rattle.std.proofs.lemmas.Bool.{true≢false}
use Rattle.game_text.proofs.NimberIdLaws.{zero-is, star-is, on-found, no-pair}
use Rattle.game_text.proofs.names.pair_name.Goals as goal

pub returns-then-are_texts : goal.returns-then-are_texts
returns-then-are_texts c =
    let r = c.if-are_texts.ensures.0 refl in
    inl (((zero-is _ _ (c.len-count.ensures.canonical c.args.left c.requires.left) c.requires.left_text.1).0 r.0, (star-is _ _ (c.len-count.ensures.canonical c.args.right c.requires.right) c.requires.right_text.1).0 r.1), c.in_ok-from_slice.ensures.items)

pub returns-then-are_texts-2 : goal.returns-then-are_texts-2
returns-then-are_texts-2 c =
    let r = c.if-are_texts-2.ensures.0 refl in
    inr (inl (((star-is _ _ (c.len-count.ensures.canonical c.args.left c.requires.left) c.requires.left_text.1).0 r.0, (zero-is _ _ (c.len-count.ensures.canonical c.args.right c.requires.right) c.requires.right_text.1).0 r.1), c.in_ok-from_slice-2.ensures.items))

pub returns : goal.returns
returns c = on-found c.switch_name.result _ _ _ _
    (no-pair _ _
    (λ u. true≢false (sym (c.if-are_texts.ensures.1 ((zero-is _ _ (c.len-count.ensures.canonical c.args.left c.requires.left) c.requires.left_text.1).1 u.0, (star-is _ _ (c.len-count.ensures.canonical c.args.right c.requires.right) c.requires.right_text.1).1 u.1))))
    (λ u. true≢false (sym (c.if-are_texts-2.ensures.1 ((star-is _ _ (c.len-count.ensures.canonical c.args.left c.requires.left) c.requires.left_text.1).1 u.0, (zero-is _ _ (c.len-count.ensures.canonical c.args.right c.requires.right) c.requires.right_text.1).1 u.1)))))
    (λ v h. inr (inr h)) c.switch_name.ensures
