use Rattle.std.proofs.Common.{inl, inr}
use Rattle.local_play.proofs.links.near.Goals as goal

pub linked-up-requires : goal.linked-up-requires
linked-up-requires c j e = c.requires j (inl e)

pub linked-left-requires : goal.linked-left-requires
linked-left-requires c j e = c.requires j (inr (inl e))

pub linked-right-requires : goal.linked-right-requires
linked-right-requires c j e = c.requires j (inr (inr (inl e)))

pub linked-down-requires : goal.linked-down-requires
linked-down-requires c j e = c.requires j (inr (inr (inr e)))
