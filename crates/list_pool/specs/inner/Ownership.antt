-- What the parts of a chunk own and lend.
use Rattle.std.specs.Prelude.{ℕ, ◌+◌, ◌-◌, ◌*◌, ◌^◌, List, [], ◌∷◌, ◌++◌, length, map, replicate, Option, Some, None}
use Rattle.std.specs.Borrow.{full_share, u64}
use base.Fml.{Lft, Fml, ftrue, ffalse, fsep, flt, froom}
use mir.Syntax.{Ty, w64, ty_int, ty_array}
use denote.Memory.{part_at, shared_of}
use denote.Sharing.{nothing, said, beside}
use denote.RawPtr.{Ptr, block_ptr, null_ptr}

-- what is owned at one place, o bytes into the block b: the number there, or room for one
abbrev pub place : ℕ → ℕ → Option ℕ → Fml
place b o (Some x) = part_at u64 full_share x b o
place b o None = froom (ty_int w64) b o

-- what is owned at places side by side, the first of them o bytes into the block b
abbrev pub places : ℕ → ℕ → List (Option ℕ) → Fml
places b o [] = ftrue
places b o (c ∷ cs) = fsep (place b o c) (places b (o + 8) cs)

-- what is lent at one place, o bytes into the block b: the number there, or nothing
abbrev pub place_lent : ℕ → ℕ → Option ℕ → Lft → Fml
place_lent b o (Some x) = shared_of u64 x b o
place_lent b o None = nothing

-- what is lent at places side by side, the first of them o bytes into the block b
abbrev pub all_lent : ℕ → ℕ → List (Option ℕ) → Lft → Fml
all_lent b o [] = nothing
all_lent b o (c ∷ cs) = beside (place_lent b o c) (all_lent b (o + 8) cs)

-- `room` places, of which the first hold the items
unfoldable pub filled : List ℕ → ℕ → List (Option ℕ)
filled items room = map Some items ++ replicate (room - length items) None

-- the places take fewer than 2 ^ 63 bytes
abbrev pub fit : ℕ → Fml
fit room = flt (room * 8) (2 ^ 63)

-- what a pointer to `room` places owns, of which the first hold the items
abbrev pub places_own : Ptr → ℕ → List ℕ → Fml
places_own (block_ptr b o) room items = fsep (fit room) (places b o (filled items room))
places_own null_ptr room items = ffalse

-- what a pointer to `room` places lends, of which the first hold the items
abbrev pub places_lent : Ptr → ℕ → List ℕ → Lft → Fml
places_lent (block_ptr b o) room items = beside (said (fit room)) (all_lent b o (filled items room))
places_lent null_ptr room items = said ffalse

-- the allocator's token for a block of that many places
abbrev pub deed_owns : (Ty → Ptr → Fml) → Ptr → ℕ → Fml
deed_owns token p room = token (ty_array (ty_int w64) room) p
