-- What figures of each kind come to: how many were completed, and of their pixels how many were offered, passed and hidden.
use Rattle.std.specs.Prelude.{◌≡◌, ℕ, ◌+◌, ◌*◌, ◌%◌, ◌^◌, ◌≤◌, List, [], ◌∷◌}
use mathlib.Core.List.{foldl}
use Rattle.picture.specs.declared.Kind.{Kind}
use Rattle.picture.specs.declared.Kind.TheVariants.{Gouraud, Constant, Line0, Line1, Line2}
use Rattle.tally.specs.declared.Count.{Count}
use Rattle.tally.specs.declared.Tally.{Tally}

-- ---- one kind

-- a count, by its parts
abbrev pub count : ℕ → ℕ → ℕ → ℕ → Count
count figures offered passed hidden = record { figures = figures; offered = offered; passed = passed; hidden = hidden }

-- nothing was counted
abbrev pub no_count : Count
no_count = count 0 0 0 0

-- two counts together
abbrev pub together : Count → Count → Count
together c d = count (c.figures + d.figures) (c.offered + d.offered) (c.passed + d.passed) (c.hidden + d.hidden)

-- a count as numbers of 64 bits keep it
abbrev pub kept_count : Count → Count
kept_count c = count (c.figures % 2 ^ 64) (c.offered % 2 ^ 64) (c.passed % 2 ^ 64) (c.hidden % 2 ^ 64)

-- every pixel that was offered passed or is hidden
abbrev pub Balanced : Count → Type 0
Balanced c = c.offered ≡ c.passed + c.hidden

-- no more than so many words can come to, each with one figure of at most 2^28 pixels
pub record Within (words : ℕ) (c : Count) : Type 0 where
  pub figures : c.figures ≤ words
  pub offered : c.offered ≤ words * 268435456
  pub passed : c.passed ≤ words * 268435456
  pub hidden : c.hidden ≤ words * 268435456

-- ---- all kinds

-- a tally, by its parts
abbrev pub tally : Count → Count → Count → Count → Count → Tally
tally gouraud constant line0 line1 line2 = record { gouraud = gouraud; constant = constant; line0 = line0; line1 = line1; line2 = line2 }

-- nothing was counted of any kind
abbrev pub no_tally : Tally
no_tally = tally no_count no_count no_count no_count no_count

-- a count of one kind, and none of the others
abbrev pub only_of : Kind → Count → Tally
only_of Gouraud c = tally c no_count no_count no_count no_count
only_of Constant c = tally no_count c no_count no_count no_count
only_of Line0 c = tally no_count no_count c no_count no_count
only_of Line1 c = tally no_count no_count no_count c no_count
only_of Line2 c = tally no_count no_count no_count no_count c

-- the count of a kind
abbrev pub count_in : Kind → Tally → Count
count_in Gouraud t = t.gouraud
count_in Constant t = t.constant
count_in Line0 t = t.line0
count_in Line1 t = t.line1
count_in Line2 t = t.line2

-- two tallies, kind by kind
abbrev pub added : Tally → Tally → Tally
added t u =
    tally (together t.gouraud u.gouraud) (together t.constant u.constant) (together t.line0 u.line0) (together t.line1 u.line1)
    (together t.line2 u.line2)

-- a tally as numbers of 64 bits keep it
abbrev pub kept : Tally → Tally
kept t = tally (kept_count t.gouraud) (kept_count t.constant) (kept_count t.line0) (kept_count t.line1) (kept_count t.line2)

-- some tallies in total
unfoldable pub total_of : List Tally → Tally
total_of ts = foldl added no_tally ts

-- a number of each of some tallies, summed
unfoldable pub sum_of : (Tally → ℕ) → List Tally → ℕ
sum_of f [] = 0
sum_of f (t ∷ ts) = f t + sum_of f ts

-- how many figures of all kinds were completed
abbrev pub figures_in : Tally → ℕ
figures_in t = t.gouraud.figures + t.constant.figures + t.line0.figures + t.line1.figures + t.line2.figures

-- how many pixels of all kinds passed
abbrev pub passed_in : Tally → ℕ
passed_in t = t.gouraud.passed + t.constant.passed + t.line0.passed + t.line1.passed + t.line2.passed

-- of every kind, what was offered passed or is hidden
pub record EachBalanced (t : Tally) : Type 0 where
  pub at : (kind : Kind) → Balanced (count_in kind t)

-- of every kind, no more than so many words can come to
pub record EachWithin (words : ℕ) (t : Tally) : Type 0 where
  pub gouraud : Within words t.gouraud
  pub constant : Within words t.constant
  pub line0 : Within words t.line0
  pub line1 : Within words t.line1
  pub line2 : Within words t.line2
