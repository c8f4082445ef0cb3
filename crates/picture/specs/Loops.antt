-- What the code of a row leans on. No promise of a public call cites anything here.
use Rattle.std.specs.Prelude.{◌≡◌, ℕ, zero, suc, ◌+◌, ◌-◌, ◌*◌, ◌/◌, ◌%◌, ◌^◌, ◌<◌, ◌≤◌, Bool, true, false, cond, ◌||◌, ◌⊎◌, List, [], Option, Some, None, map, sum, nat_lt, slice_index, slice_set}
use Rattle.std.specs.List.{range_with_len}
use mathlib.Core.List.{foldl}
use Rattle.picture.specs.declared.Carried.{Carried}
use Rattle.picture.specs.declared.Run.{Run}
use Rattle.picture.specs.declared.Share.{Share}
use Rattle.picture.specs.declared.Stretch.{Stretch}
use Rattle.picture.specs.declared.Frame.{Frame}
use Rattle.picture.specs.declared.Pen.{Pen}
use Rattle.picture.specs.declared.Kind.{Kind}
use Rattle.picture.specs.declared.Kind.TheVariants.{Gouraud}
use Rattle.std.specs.declared.cmp.Ordering.{Ordering}
use Rattle.std.specs.declared.cmp.Ordering.TheVariants.{Less, Equal, Greater}
use Rattle.picture.specs.Place.{Layout, plain, tiled, share, layout_of, lies_plain, lies_tiled, place_of, rows_of, mine, in_memory}
use Rattle.picture.specs.Offer.{Offer, offer, lets_through}
use Rattle.picture.specs.Draw.{spans, shown, carried_one, carried_to, steady_of, span_offers, nearer_pen}
use Rattle.picture.specs.Lent.{Lent}
use Rattle.picture.specs.Picture.{is_deep, compared_of, is_edge, Picture, picture, step_at, drawn}

-- nothing but a nearer depth decides, and both numbers are stored whole
pub record Plain (pen : Pen) (kind : Kind) : Type 0 where
  pub shows_all : (x y : ℕ) → lets_through pen kind x y ≡ true
  pub deep : is_deep kind ≡ true
  pub strict : is_edge kind ≡ false
  pub depth : pen.depth ≡ true
  pub ienable : pen.ienable ≡ true
  pub zenable : pen.zenable ≡ true
  pub planes : pen.planes ≡ 65535

-- the depth is strictly less; equal stays
abbrev pub is_nearer : Ordering → Bool
is_nearer Less = true
is_nearer Equal = false
is_nearer Greater = false

-- what is carried so many pixels on
abbrev pub after : Carried → ℕ → Carried
after c j = record { first = (c.first + (j * c.add) % 2 ^ 64) % 2 ^ 64; add = c.add }

-- a number that is carried stays the same: it has no part, and no pixel adds anything to it
abbrev pub Stays : Carried → Type 0
Stays c = c ≡ steady_of (c.first / carried_one)

-- one offer of that sort at a place
unfoldable pub nearer_at : ℕ → ℕ → ℕ → Picture → Picture
nearer_at at i z p = cond (is_nearer (compared_of z (slice_index p.z at))) (picture (slice_set p.i at i) (slice_set p.z at z) (p.passed + 1)) p

-- so many of them one after the other, pixel j at its place with the numbers carried to it
unfoldable pub run_over : (ℕ → ℕ) → Carried → Carried → ℕ → Picture → Picture
run_over place i z zero p = p
run_over place i z (suc n) p = nearer_at (place n) (carried_to i n) (carried_to z n) (run_over place i z n p)

-- an offer of any sort was drawn at a place of two lent memories, and the count of passed pixels went from one number to another
abbrev pub Puts : Pen → Kind → ℕ → ℕ → ℕ → Lent → Lent → ℕ → ℕ → Type 0
Puts pen kind at i z im zm from to =
    picture im.exit.now zm.exit.now to ≡ step_at pen kind at i z (picture im.entry.now zm.entry.now from)

-- the same of an offer that only a nearer depth decides
abbrev pub PutsNearer : ℕ → ℕ → ℕ → Lent → Lent → ℕ → ℕ → Type 0
PutsNearer at i z im zm from to =
    picture im.exit.now zm.exit.now to ≡ nearer_at at i z (picture im.entry.now zm.entry.now from)

-- so many offers of that sort were drawn over two lent memories, and the count of passed pixels went from one number to another
abbrev pub Runs : (ℕ → ℕ) → Carried → Carried → ℕ → Lent → Lent → ℕ → ℕ → Type 0
Runs place i z count im zm from to =
    picture im.exit.now zm.exit.now to ≡ run_over place i z count (picture im.entry.now zm.entry.now from)

-- so many pixels side by side, from place base on, lie inside memories of two lengths
pub record FitsFrom (base count ni nz : ℕ) : Type 0 where
  pub low : base ≤ 4294967295
  pub i : base + count ≤ ni
  pub z : base + count ≤ nz

-- so do those of a run
abbrev pub Fits : Run → ℕ → ℕ → Type 0
Fits run ni nz = FitsFrom run.base run.count ni nz

-- a pixel inside memories of two lengths has its place below both
pub record InPlace (frame : Frame) (ni nz x y at : ℕ) : Type 0 where
  pub inside : in_memory frame (rows_of frame ni nz) x y ≡ true
  pub is : at ≡ place_of frame x y
  pub i : at < ni
  pub z : at < nz

-- or it is outside, and has none
abbrev pub IsPlace : Frame → ℕ → ℕ → ℕ → ℕ → Option ℕ → Type 0
IsPlace frame ni nz x y (Some at) = InPlace frame ni nz x y at
IsPlace frame ni nz x y None = in_memory frame (rows_of frame ni nz) x y ≡ false

-- of a stretch a memory has some columns of a row in use, of which every pen offers what it does of all
pub record Part (frame : Frame) (rows : ℕ) (s t : Stretch) : Type 0 where
  pub some : t.lo < t.hi
  pub low : t.hi ≤ frame.line
  pub used : t.y < rows
  pub i : t.i ≡ s.i
  pub z : t.z ≡ s.z
  pub same : (pen : Pen) (kind : Kind) → pen.frame ≡ frame
      → span_offers pen rows kind t.lo t.hi t.y t.i t.z ≡ span_offers pen rows kind s.lo s.hi s.y s.i s.z

-- or it has nothing, and no pen offers anything of it
abbrev pub IsPart : Frame → ℕ → Stretch → Option Stretch → Type 0
IsPart frame rows s (Some t) = Part frame rows s t
IsPart frame rows s None = (pen : Pen) (kind : Kind) → pen.frame ≡ frame → span_offers pen rows kind s.lo s.hi s.y s.i s.z ≡ []

-- pixels side by side are what is drawn of a row in use from column lo up to and without hi: they lie in memories that have the row in use, and a number that stays
-- along the row stays along them
pub record Beside (frame : Frame) (lo hi y : ℕ) (i z : Carried) (run : Run) : Type 0 where
  pub fits : (ni nz : ℕ) → y < rows_of frame ni nz → Fits run ni nz
  pub i_stays : i.add ≡ 0 → i.first < 2 ^ 64 → run.i ≡ i
  pub z_stays : z.add ≡ 0 → z.first < 2 ^ 64 → run.z ≡ z
  pub same : (rows : ℕ) → y < rows → (p : Picture)
      → run_over (λ j. run.base + j) run.i run.z run.count p
      ≡ drawn (nearer_pen frame) (span_offers (nearer_pen frame) rows Gouraud lo hi y i z) p

-- ---- eight pixels side by side

-- a number for each of eight pixels, from the first on
abbrev pub for_eight : (ℕ → ℕ) → List ℕ
for_eight f = map f (range_with_len 0 8)

-- the eight numbers of a memory from a place on
unfoldable pub eight_at : ℕ → List ℕ → List ℕ
eight_at at m = for_eight (λ k. slice_index m (at + k))

-- a memory with eight numbers stored from a place on, one after the other
unfoldable pub eight_set : ℕ → List ℕ → List ℕ → List ℕ
eight_set at v m = foldl (λ l k. slice_set l (at + k) (slice_index v k)) m (range_with_len 0 8)

-- what is made of two numbers, for each of eight pixels
unfoldable pub each_of : (ℕ → ℕ → ℕ) → List ℕ → List ℕ → List ℕ
each_of op v w = for_eight (λ k. op (slice_index v k) (slice_index w k))

-- for each of eight pixels the new number where depth z is less than what stands there, and else the old one
abbrev pub pick_eight : ℕ → List ℕ → ℕ → List ℕ → List ℕ
pick_eight z deep new old = each_of (λ d o. cond (nat_lt z d) new o) deep old

-- for each of eight pixels its count, and one more where depth z is less than what stands there
abbrev pub count_eight : ℕ → List ℕ → List ℕ → List ℕ
count_eight z deep n = each_of (λ d k. cond (nat_lt z d) (k + 1) k) deep n

-- eight numbers summed up
abbrev pub sum_of : List ℕ → ℕ
sum_of n = sum n

-- the rows up to the end of the band that has row y: that row, or the four of a tile
unfoldable pub band_end : Layout → ℕ → ℕ
band_end plain y = y + 1
band_end tiled y = y / 4 * 4 + 4
band_end (share ways unit) y = y + 1

-- how far a row's pixel x lies from its first one in tiles: four side by side, and twelve of other rows between those and the next four
abbrev pub along_tiles : ℕ → ℕ
along_tiles x = x + 12 * (x / 4)

-- a row's pixels from column lo up to and without hi lie inside memories of two lengths, in tiles; base is the row's first place
pub record FitsTiles (base lo hi ni nz : ℕ) : Type 0 where
  pub some : lo < hi
  pub few : hi ≤ 65532
  pub low : base ≤ 4294967295
  pub i : base + along_tiles (hi - 1) < ni
  pub z : base + along_tiles (hi - 1) < nz

-- columns from lo up to and without hi of row y, which is in use, in a memory that has every column
abbrev pub InWhole : Frame → ℕ → ℕ → ℕ → ℕ → Type 0
InWhole frame lo hi y rows = (lo < hi) × (hi ≤ frame.line) × (y < rows) × (lies_plain frame || lies_tiled frame ≡ true)

-- ---- what a unit of a board has of a row

-- the same columns, where the memory is a unit's
abbrev pub InShares : Frame → ℕ → ℕ → ℕ → ℕ → Type 0
InShares frame lo hi y rows = (lo < hi) × (hi ≤ frame.line) × (y < rows) × (lies_plain frame ≡ false) × (lies_tiled frame ≡ false)

-- the frame is that of a unit of so many, two or four
pub record Shares (frame : Frame) (ways : ℕ) : Type 0 where
  pub few : (ways ≡ 2) ⊎ (ways ≡ 4)
  pub least : ways ≤ frame.layout
  pub most : frame.layout < 2 * ways
  pub is : layout_of frame ≡ share ways (frame.layout - ways)

-- so many columns of row y, which is in use, that a unit has, from its column x on
abbrev pub OwnColumns : Frame → ℕ → ℕ → ℕ → ℕ → ℕ → Type 0
OwnColumns frame ways x count y rows = (Shares frame ways) × (mine (layout_of frame) x ≡ true) × (x + ways * count < frame.line + ways) × (y < rows)

-- how many columns from column lo on the first one that it has is
unfoldable pub until_own : ℕ → ℕ → ℕ → ℕ
until_own ways layout lo = (layout - lo % ways) % ways

-- a carried number of each of so many pixels, from pixel `first` on
abbrev pub stridden : Carried → ℕ → ℕ → Carried
stridden c first ways = record { first = (c.first + (first * c.add) % 2 ^ 64) % 2 ^ 64; add = (ways * c.add) % 2 ^ 64 }

-- of a stretch a unit has some columns, the first one before its end
pub record OwnShare (frame : Frame) (ways : ℕ) (s : Stretch) (own : Share) : Type 0 where
  pub past : until_own ways frame.layout s.lo < s.hi - s.lo
  pub x : own.x ≡ s.lo + until_own ways frame.layout s.lo
  pub count : own.count ≡ (s.hi - s.lo - until_own ways frame.layout s.lo - 1) / ways + 1
  pub i : own.i ≡ stridden s.i (until_own ways frame.layout s.lo) ways
  pub z : own.z ≡ stridden s.z (until_own ways frame.layout s.lo) ways

-- or none, the first one not before its end
abbrev pub IsShare : Frame → ℕ → Stretch → Option Share → Type 0
IsShare frame ways s (Some own) = OwnShare frame ways s own
IsShare frame ways s None = s.hi - s.lo ≤ until_own ways frame.layout s.lo

-- how many it has of so many columns, where that is the first
unfoldable pub own_below : ℕ → ℕ → ℕ → ℕ
own_below ways first n = (n + (ways - 1 - first)) / ways

-- the pixels that it has, so many of them from column x on, their numbers carried from one to the next
unfoldable pub own_offers : Pen → Kind → ℕ → ℕ → ℕ → ℕ → Carried → Carried → List Offer
own_offers pen kind ways x count y i z = spans (λ j. shown pen (offer kind (x + ways * j) y (carried_to i j) (carried_to z j))) count
