-- What may be said of a machine's drawing before it draws: every pixel lies inside the memory, the pen stores nothing, nothing has depth.
use Rattle.std.specs.Prelude.{◌≡◌, true, false, ℕ, ◌*◌, ◌≤◌}
use mathlib.Core.List.{Memᴰ}
use Rattle.picture.specs.Place.{layout_of, width_of, in_memory}
use Rattle.picture.specs.Offer.{Offer}
use Rattle.picture.specs.Store.{Store}
use Rattle.picture.specs.Picture.{is_deep}
use Rattle.machine.specs.Machine.{Machine, Memories, rows_in}

-- every pixel that a machine offers or stores lies inside the memory
pub record StaysInside (M : Machine) : Type 0 where
  pub at : (rows : ℕ) (r : M.Registers) (w : M.Word) (o : Offer) → Memᴰ o (M.offers rows r w) → in_memory (M.pen r).frame rows o.x o.y ≡ true
  pub stores : (rows : ℕ) (r : M.Registers) (w : M.Word) (s : Store) → Memᴰ s (M.stores rows r w) → in_memory (M.pen r).frame rows s.x s.y ≡ true

-- a place above the rows in use
abbrev pub Above : (M : Machine) → ℕ → M.Registers → M.Word → Memories → Type 0
Above M at r w m = rows_in M r m * width_of (layout_of (M.pen r).frame) (M.pen r).frame.line ≤ at

-- the I enable is off, and the Z enable
abbrev pub OffI : (M : Machine) → M.Registers → M.Word → Memories → Type 0
OffI M r w m = (M.pen r).ienable ≡ false

-- the Z enable is off
abbrev pub OffZ : (M : Machine) → M.Registers → M.Word → Memories → Type 0
OffZ M r w m = (M.pen r).zenable ≡ false

-- both are
abbrev pub Off : (M : Machine) → M.Registers → M.Word → Memories → Type 0
Off M r w m = OffI M r w m × OffZ M r w m

-- a word offers nothing of a kind with depth, and stores none
abbrev pub Shallow : (M : Machine) → M.Registers → M.Word → Memories → Type 0
Shallow M r w m =
    ((o : Offer) → Memᴰ o (M.offers (rows_in M r m) r w) → is_deep o.kind ≡ false)
    × ((s : Store) → Memᴰ s (M.stores (rows_in M r m) r w) → s.deep ≡ false)
