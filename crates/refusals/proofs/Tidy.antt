-- Nothing stands parked or open that no word will read: what is no longer awaited or open is cleared, so that one state has one record. Assumes
-- nothing.
use mathlib.Core.Path.{◌≡◌, refl, sym, ◌∙◌, subst}
use mathlib.Core.Bool.{Bool, true, false, not, ◌&&◌, true≢false}
use mathlib.Core.List.{List}
use Prim.Native.Nat.{ℕ, ◌+◌, ◌≤◌, ◌<◌}
use native.Mathlib.Omega.{arith}
use lib.Dec.{ltb, eqb}
use lib.Seq.{get_or-set_other}
use borrow.Author.Tests.{ltb-true, ltb-false, eqb-true, not-false}
use Rattle.picture.specs.declared.Vertex.{Vertex}
use Rattle.registers.specs.declared.word.Word.{Word}
use Rattle.registers.specs.declared.word.Word.TheVariants.{Init, Aux, Parm, At, Img, Ptrn, Reserved, Unmodelled, Unknown}
use Rattle.registers.specs.declared.word.Coordinate.{Coordinate}
use Rattle.registers.specs.declared.word.Coordinate.TheVariants.{I, Z, Y, X, T1x, T2x, Lx, Px}
use Rattle.registers.specs.declared.subcommand.Subcommand.{Subcommand}
use Rattle.registers.specs.declared.shape.Shape.{Shape}
use Rattle.registers.specs.declared.shape.Shape.TheVariants.{Closed, Strip, Fan, Line}
use Rattle.registers.specs.declared.Figure.{Figure}
use Rattle.registers.specs.declared.Parked.{Parked}
use Rattle.registers.specs.declared.Region.{Region}
use Rattle.registers.specs.declared.Registers.{Registers}
use Rattle.registers.specs.Record.{no_number, no_vertex, opened, no_figure, awaiting, nothing_awaited, no_region, settings, reset_of}
use Rattle.registers.specs.Region.{is_open, next_pixel}
use Rattle.registers.specs.Subcommand.{largest_aux, subcommand_of, wants}
use Rattle.registers.specs.Figure.{shape_of, vertex_of, is_pair, paired, advanced, grown_of}
use Rattle.registers.specs.Next.{value, awaited, joined_of, counted, effect_of, parm_of, coordinate_of, img_number, transferred_of, record_after}
use Rattle.refusals.specs.Refusal.{is_above, is_ptrn, refusal_of, next, read_refusal_of}
use Rattle.ground.proofs.Truth.{either}
use Rattle.registers.proofs.Table.{everywhere}
use Rattle.registers.proofs.Effects.{effect_has, effect_leaves}
use Rattle.refusals.proofs.Refusals.{accepted_when, read_when}

-- with nothing awaited nothing is parked, and places of parameters that have not come are 0
pub record TidyParked (p : Parked) : Type 0 where
  pub nothing : p.subcommand ≡ no_number → p ≡ nothing_awaited
  pub ahead : (k : ℕ) → p.came ≤ k → value p.values k ≡ 0

-- a closed figure has no vertex, one with a single vertex has no second, and only a line has steps
pub record TidyFigure (f : Figure) : Type 0 where
  pub closed : f.shape ≡ 0 → f ≡ no_figure
  pub single : is_pair f ≡ false → f.second ≡ no_vertex
  pub still : (f.shape ≡ 3 → ⊥) → (f.steps ≡ 0) × (f.dashed ≡ 0)

-- a region that is not open has no pixels
pub record TidyRegion (g : Region) : Type 0 where
  pub none : g.way ≡ 0 → g ≡ no_region

-- a record with all three
pub record Tidy (r : Registers) : Type 0 where
  pub parked : TidyParked r.parked
  pub figure : TidyFigure r.figure
  pub region : TidyRegion r.region

tidy_awaiting : (n : ℕ) → (n ≡ no_number → awaiting n ≡ nothing_awaited) → TidyParked (awaiting n)
tidy_awaiting n e =
    record { nothing = e; ahead = λ k h. everywhere (λ i x. x ≡ 0) 0 (awaiting n).values (refl, (refl, (refl, (refl, (refl, tt))))) (λ i l. refl) k }

tidy_nothing : TidyParked nothing_awaited
tidy_nothing = tidy_awaiting no_number (λ e. refl)

tidy_none : TidyFigure no_figure
tidy_none = record { closed = λ e. refl; single = λ e. refl; still = λ e. (refl, refl) }

tidy_open : (shape : ℕ) (v : Vertex) → (shape ≡ 0 → ⊥) → TidyFigure (opened shape v)
tidy_open shape v ne = record { closed = λ e. absurd (ne e); single = λ e. refl; still = λ e. (refl, refl) }

tidy_pair : (shape : ℕ) (a b : Vertex) → (shape ≡ 0 → ⊥) → TidyFigure (paired shape a b)
tidy_pair shape a b ne = record { closed = λ e. absurd (ne e); single = λ e. absurd (true≢false e); still = λ e. (refl, refl) }

tidy_dropped : TidyRegion no_region
tidy_dropped = record { none = λ e. refl }

tidy_begun : (g : Region) → (g.way ≡ 0 → ⊥) → TidyRegion g
tidy_begun g ne = record { none = λ e. absurd (ne e) }

tidy_advanced : (dashed : Bool) (f : Figure) (v : Vertex) → TidyFigure (advanced dashed f v)
tidy_advanced dashed f v = record { closed = λ e. absurd (omega (arith, e)); single = λ e. refl; still = λ e. absurd (e refl) }

tidy_grown : (shape : Shape) (end dashed : Bool) (f : Figure) (v : Vertex) → TidyFigure f → TidyFigure (grown_of shape end dashed f v)
unfolding grown_of
tidy_grown Closed end dashed f v t = t
tidy_grown Strip end dashed f v t = either TidyFigure (is_pair f) (λ p. tidy_pair 1 f.second v (λ e. omega (arith, e))) (λ p. tidy_pair 1 f.first v (λ e. omega (arith, e)))
tidy_grown Fan end dashed f v t = tidy_pair 2 f.first v (λ e. omega (arith, e))
tidy_grown Line end dashed f v t = either TidyFigure end (λ p. tidy_none) (λ p. tidy_advanced dashed f v)

tidy_counted : (p : Parked) (v : ℕ) → p.came + 1 < wants (subcommand_of p.subcommand) → TidyParked p → TidyParked (counted (joined_of p v))
unfolding subcommand_of
tidy_counted p v h t =
    record {
      nothing = λ e. let l : p.came + 1 < 0 = subst (λ (n : ℕ). p.came + 1 < wants (subcommand_of n)) e h in absurd (omega (arith, l));
      ahead = λ k l. get_or-set_other p.values p.came k v 0 (λ e. absurd (omega (arith, l, e))) ∙ t.ahead k (omega (arith, l));
    }

-- parameters leave a region, or open one
effect_region : (r : Registers) (s : Subcommand) (l : List ℕ) → TidyRegion r.region → TidyRegion (effect_of r s l).region
effect_region r s l t = effect_has (λ u. TidyRegion (u r).region) s l (record { none = t; modes = λ f h. t; window = λ w. t; dash = λ f. t; region = tidy_begun })

-- a transfer moves an open region on, or drops it
tidy_pixel : (g : Region) → (g.way ≡ 0 → ⊥) → TidyRegion (next_pixel g)
unfolding next_pixel
tidy_pixel g ne =
    either TidyRegion (eqb g.x g.x1)
    (λ t. either TidyRegion (eqb g.y g.y1) (λ u. tidy_dropped) (λ u. tidy_begun _ ne)) (λ t. tidy_begun _ ne)

module _ (r : Registers) (t : Tidy r) where
  tidy_coordinate : (c : Coordinate) (n : ℕ) → Tidy (coordinate_of r c n)
  unfolding coordinate_of
  tidy_coordinate I n = record { parked = t.parked; figure = t.figure; region = t.region }
  tidy_coordinate Z n = record { parked = t.parked; figure = t.figure; region = t.region }
  tidy_coordinate Y n = record { parked = t.parked; figure = t.figure; region = t.region }
  tidy_coordinate X n = record { parked = t.parked; figure = tidy_grown (shape_of r.figure.shape) _ _ r.figure (vertex_of r n) t.figure; region = t.region }
  tidy_coordinate T1x n = record { parked = t.parked; figure = tidy_open 1 (vertex_of r n) (λ e. omega (arith, e)); region = t.region }
  tidy_coordinate T2x n = record { parked = t.parked; figure = tidy_open 2 (vertex_of r n) (λ e. omega (arith, e)); region = t.region }
  tidy_coordinate Lx n = record { parked = t.parked; figure = tidy_open 3 (vertex_of r n) (λ e. omega (arith, e)); region = t.region }
  tidy_coordinate Px n = record { parked = t.parked; figure = tidy_grown (shape_of r.figure.shape) _ _ r.figure (vertex_of r n) t.figure; region = t.region }

  tidy_parm : (v : ℕ) → Tidy (parm_of r v)
  unfolding parm_of
  tidy_parm v =
      either Tidy (ltb (r.parked.came + 1) (wants (awaited r)))
      (λ e. record { parked = tidy_counted r.parked v (ltb-true _ _ e) t.parked; figure = t.figure; region = t.region })
      (λ e. record { parked = tidy_nothing; figure = subst TidyFigure (sym (effect_leaves r (awaited r) _).figure) t.figure; region = effect_region r (awaited r) _ t.region })

  transferred_tidy : (way : ℕ) → (way ≡ 0 → ⊥) → is_open way r ≡ true → Tidy (transferred_of r)
  transferred_tidy way ne o =
      record { parked = t.parked; figure = t.figure; region = tidy_pixel r.region (λ e. ne (sym (eqb-true _ _ o) ∙ e)) }

  tidy_after : (w : Word) → is_above w ≡ false → is_ptrn w && not (is_open 1 r) ≡ false → Tidy (record_after r w)
  unfolding record_after settings
  tidy_after (Init d) a g = record { parked = tidy_nothing; figure = tidy_none; region = tidy_dropped }
  tidy_after (Aux n) a g = record { parked = tidy_awaiting n (λ e. absurd (omega (arith, e, ltb-false largest_aux n a))); figure = t.figure; region = t.region }
  tidy_after (Parm v) a g = tidy_parm v
  tidy_after (At c n) a g = tidy_coordinate c n
  tidy_after (Img d) a g = record { parked = tidy_awaiting (img_number d) (λ e. absurd (omega (arith, e))); figure = t.figure; region = t.region }
  tidy_after (Ptrn v) a g = transferred_tidy 1 (λ e. omega (arith, e)) (not-false _ g)
  tidy_after Reserved a g = t
  tidy_after Unmodelled a g = t
  tidy_after Unknown a g = t

  -- words keep a record tidy
  pub next_tidy : (ni nz : ℕ) (w : Word) → Tidy (next ni nz r w)
  unfolding next
  next_tidy ni nz w =
      either Tidy (eqb (refusal_of ni nz r w) 0) {x = record_after r w} {y = r}
      (λ e. let a = (accepted_when ni nz r w).0 (eqb-true _ _ e) in tidy_after w a.listed a.placed) (λ e. t)

  -- and so does the read call
  pub read_tidy : (ni nz : ℕ) → read_refusal_of ni nz r ≡ 0 → Tidy (transferred_of r)
  read_tidy ni nz e = transferred_tidy 2 (λ q. omega (arith, q)) ((read_when ni nz r).0 e).outward

-- and reset leaves a tidy one
pub reset_tidy : Tidy reset_of
unfolding settings
reset_tidy = record { parked = tidy_nothing; figure = tidy_none; region = tidy_dropped }
