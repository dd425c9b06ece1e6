use Rattle.std.proofs.Common.{inl, inr}
use Rattle.std.proofs.lemmas.Bool.{eq-eqb, eqb-true}
use Rattle.board_session.proofs.analysis.is_space.Goals as goal

pub returns-then-byte-eq32 : goal.returns-then-byte-eq32
returns-then-byte-eq32 c = ((λ is. inl c.if-byte-eq32.true), (λ space. eq-eqb c.args.byte 32 c.if-byte-eq32.true))

pub returns-else-byte-eq32 : goal.returns-else-byte-eq32
returns-else-byte-eq32 c = (
  (λ is. inr (eqb-true c.args.byte 10 is)),
  (λ space. elim space [
    | inl blank ↦ absurd (c.if-byte-eq32.false blank)
    | inr feed ↦ eq-eqb c.args.byte 10 feed
  ]),
)
