-- Pictures saved and reloaded (request [1]): a region that is read and at once written back leaves the memory as it was, and what is written
-- into a region is what is read from it later.
use Rattle.std.specs.Prelude.{◌≡◌, true, false, cond, List, [], ◌∷◌, ◌++◌, map, ℕ, zero, suc, ◌+◌, ◌-◌, ◌*◌, ◌≤◌, ◌<◌, length, get_or, ltb}
use Rattle.picture.specs.declared.Frame.{Frame}
use Rattle.picture.specs.Limits.{largest_coordinate}
use Rattle.picture.specs.Place.{rows_of, in_memory}
use Rattle.picture.specs.Store.{read_of}
use Rattle.registers.specs.declared.Region.{Region}
use Rattle.registers.specs.declared.Registers.{Registers}
use Rattle.registers.specs.declared.word.Word.{Word}
use Rattle.registers.specs.declared.word.Word.TheVariants.{Img, Parm, Ptrn}
use Rattle.registers.specs.Record.{is_on, i_bit, z_bit, region_of}
use Rattle.registers.specs.Region.{next_pixel}
use Rattle.registers.specs.Next.{is_deep_picture}
use Rattle.refusals.specs.Bounds.{in_bounds}
use Rattle.refusals.specs.Refusal.{is_cold, awaits}
use Rattle.machine.specs.Machine.{Memories, number_of, step_of}
use Rattle.machine.specs.Offers.{State, all_of}
use Rattle.chip.specs.Chip.{chip}
use Rattle.chip.specs.Read.{read_number, reading}

-- ---- words and reads

-- the two corners of a region
pub record Corners : Type 0 where
  pub x0 : ℕ
  pub y0 : ℕ
  pub x1 : ℕ
  pub y1 : ℕ

-- the words that open a region: IMG, with 0 to memory and with 1 from memory, and its four parameters
abbrev pub opening : ℕ → Corners → List Word
opening way c = Img way ∷ Parm c.x0 ∷ Parm c.y0 ∷ Parm c.x1 ∷ Parm c.y1 ∷ []

-- the pixels that so many reads give
unfoldable pub reads : ℕ → Registers → Memories → List ℕ
reads zero r m = []
reads (suc n) r m = (reading r m).pixel ∷ reads n (reading r m).registers m

-- and the registers after them
unfoldable pub reads_leave : ℕ → Registers → Memories → Registers
reads_leave zero r m = r
reads_leave (suc n) r m = reads_leave n (reading r m).registers m

-- words taken by the chip
abbrev pub taking : Registers → List Word → Memories → State Registers Memories
taking r ws m = all_of (step_of chip) r ws m

-- a region is opened from memory and so many pixels are read
abbrev pub saving : ℕ → Corners → Registers → Memories → List ℕ
saving n c r m = reads n (taking r (opening 1 c) m).registers m

-- and the registers after these reads
abbrev pub saving_leaves : ℕ → Corners → Registers → Memories → Registers
saving_leaves n c r m = reads_leave n (taking r (opening 1 c) m).registers m

-- a region is opened to memory and some pixels are written
abbrev pub loading : Corners → List ℕ → Registers → Memories → State Registers Memories
loading c pixels r m = taking r (opening 0 c ++ map Ptrn pixels) m

-- ---- what is supposed

-- the corners are coordinates
pub record Allowed (c : Corners) : Type 0 where
  pub x0 : c.x0 ≤ largest_coordinate
  pub y0 : c.y0 ≤ largest_coordinate
  pub x1 : c.x1 ≤ largest_coordinate
  pub y1 : c.y1 ≤ largest_coordinate

-- the machine takes IMG: the memories have one length, an INIT was accepted, no parameter is awaited
pub record Ready (r : Registers) (m : Memories) : Type 0 where
  pub same : length m.i ≡ length m.z
  pub sound : in_bounds r ≡ true
  pub begun : is_cold r ≡ false
  pub idle : awaits r ≡ false

-- a number of 16 bits
abbrev pub Word16 : ℕ → Type 0
Word16 n = n ≤ 65535

-- ---- the region's pixels

-- how far two coordinates are apart
abbrev pub apart : ℕ → ℕ → ℕ
apart a b = (a - b) + (b - a)

-- how many pixels a region has
abbrev pub size_of : Corners → ℕ
size_of c = (apart c.x0 c.x1 + 1) * (apart c.y0 c.y1 + 1)

-- the coordinate after some steps from one towards another
abbrev pub stepped : ℕ → ℕ → ℕ → ℕ
stepped a b k = cond (ltb a b) (a + k) (a - k)

-- what is read of pixels that were written along a region: each inside the memory is itself, each outside 0
unfoldable pub read_back_of : Frame → ℕ → Region → List ℕ → List ℕ
read_back_of frame rows g [] = []
read_back_of frame rows g (v ∷ vs) = cond (in_memory frame rows g.x g.y) v 0 ∷ read_back_of frame rows (next_pixel g) vs

-- ---- the theorem

-- a region takes as many transfers as it has pixels, row by row; saved and reloaded, it leaves the memories as they were; and what is loaded
-- into it is read back
pub record Reload : Type 0 where
  -- a region from memory has as many reads as it has pixels, and one more is refused with 14
  pub taken : (c : Corners) (r : Registers) (m : Memories) (n : ℕ) → Allowed c → Ready r m → n < size_of c → read_number (saving_leaves n c r m) m ≡ 0
  pub used_up : (c : Corners) (r : Registers) (m : Memories) → Allowed c → Ready r m → read_number (saving_leaves (size_of c) c r m) m ≡ 14
  -- a region to memory takes as many PTRNs as it has pixels, and one more is refused with 14
  pub stored : (c : Corners) (r : Registers) (m : Memories) (pixels : List ℕ) (v : ℕ) → Allowed c → Ready r m → length pixels < size_of c
      → number_of chip (loading c pixels r m).registers (Ptrn v) (loading c pixels r m).memories ≡ 0
  pub full : (c : Corners) (r : Registers) (m : Memories) (pixels : List ℕ) (v : ℕ) → Allowed c → Ready r m → length pixels ≡ size_of c
      → number_of chip (loading c pixels r m).registers (Ptrn v) (loading c pixels r m).memories ≡ 14
  -- pixels go from the first corner towards the second, along x first: what is read after j whole rows and i pixels is i steps along x and j
  -- steps along y
  pub row_by_row : (c : Corners) (r : Registers) (m : Memories) (n i j : ℕ) → Allowed c → Ready r m
      → i ≤ apart c.x0 c.x1 → j ≤ apart c.y0 c.y1 → i + j * (apart c.x0 c.x1 + 1) < n → n ≤ size_of c
      → get_or (saving n c r m) (i + j * (apart c.x0 c.x1 + 1)) 0
      ≡ read_of r.frame (is_deep_picture r) (stepped c.x0 c.x1 i) (stepped c.y0 c.y1 j) m.i m.z
  -- a region saved and at once reloaded at the same corners leaves both memories as they were, however many pixels were read, whatever
  -- planes and enables
  pub unchanged : (c : Corners) (r : Registers) (m : Memories) (n : ℕ) → Allowed c → Ready r m → Word16 r.modes.planes
      → ((at : ℕ) → Word16 (get_or m.i at 0))
      → (loading c (saving n c r m) (saving_leaves n c r m) m).memories ≡ m
  -- with the enables on and all planes, what is loaded into a region is what a later save of it reads, pixel by pixel, inside the memory
  pub read_back : (c : Corners) (r : Registers) (m : Memories) (pixels : List ℕ) → Allowed c → Ready r m
      → is_on i_bit r.modes.hcontrol ≡ true → is_on z_bit r.modes.hcontrol ≡ true → r.modes.planes ≡ 65535
      → ((k : ℕ) → Word16 (get_or pixels k 0)) → length pixels ≤ size_of c
      → saving (length pixels) c (loading c pixels r m).registers (loading c pixels r m).memories
      ≡ read_back_of r.frame (rows_of r.frame (length m.i) (length m.z)) (region_of 1 c.x0 c.y0 c.x1 c.y1) pixels
