-- What a call makes of the two memories that it is lent: said of these once, so that a contract names the offers and nothing else.
use Rattle.std.specs.Borrow.{MutBor}
use denote.Triple.Both.{Both}
use Rattle.std.specs.Prelude.{◌≡◌, ℕ, List, length}
use Rattle.picture.specs.declared.Frame.{Frame}
use Rattle.picture.specs.declared.Pen.{Pen}
use Rattle.picture.specs.declared.Memories.{Memories}
use Rattle.picture.specs.Place.{rows_of}
use Rattle.picture.specs.Offer.{Offer}
use Rattle.picture.specs.Picture.{Picture, picture, drawn}
use Rattle.picture.specs.Store.{Store, filled}

-- the two lent memories twice: as a call finds them and as it leaves them
abbrev pub Together : Type 0
Together = Both (MutBor Memories) (MutBor Memories)

-- the rows in use of two lent memories
abbrev pub rows_over : Frame → Memories → ℕ
rows_over frame m = rows_of frame (length m.i.now) (length m.z.now)

-- what they hold, and a count of passed pixels
abbrev pub held : Memories → ℕ → Picture
held m n = picture m.i.now m.z.now n

-- two memories are the same two as others, whatever they hold: what is stored in them is stored in those
abbrev pub Same : Memories → Memories → Type 0
Same m n = (n.i.ghost_name ≡ m.i.ghost_name) × (n.z.ghost_name ≡ m.z.ghost_name)

-- a call leaves the very memories that it was lent
abbrev pub Kept : Together → Type 0
Kept m = Same m.entry.now m.exit.now

-- what is offered where so many rows are in use was drawn, and the count of passed pixels went from one number to another
abbrev pub Draws : Pen → (ℕ → List Offer) → Together → ℕ → ℕ → Type 0
Draws pen offers m from to =
    Kept m × (held m.exit.now to ≡ drawn pen (offers (rows_over pen.frame m.entry.now)) (held m.entry.now from))

-- one of the two memories, lent by itself, twice: as a call finds it and as it leaves it
abbrev pub Lent : Type 0
Lent = Both (MutBor (List ℕ)) (MutBor (List ℕ))

-- the same of the two memories, each lent by itself: the loops over pixels take them so
abbrev pub DrawsApart : Pen → (ℕ → List Offer) → Lent → Lent → ℕ → ℕ → Type 0
DrawsApart pen offers im zm from to =
    picture im.exit.now zm.exit.now to
    ≡ drawn pen (offers (rows_of pen.frame (length im.entry.now) (length zm.entry.now))) (picture im.entry.now zm.entry.now from)

-- what is to be stored where so many rows are in use was stored, uncounted
abbrev pub Fills : Pen → (ℕ → List Store) → Together → Type 0
Fills pen stores m =
    Kept m × (held m.exit.now 0 ≡ filled pen (stores (rows_over pen.frame m.entry.now)) (held m.entry.now 0))
