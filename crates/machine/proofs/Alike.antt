-- Two machines that answer each word alike answer runs alike. Assumes nothing.
use mathlib.Core.Path.{◌≡◌, refl, ap, ap₂}
use mathlib.Core.Bool.{Bool, true, false, cond}
use mathlib.Core.List.{List, [], ◌∷◌}
use Prim.Native.Nat.{ℕ, ◌+◌, ◌%◌, ◌^◌}
use lib.Dec.{eqb}
use borrow.Author.Tests.{eqb-true}
use Rattle.machine.specs.Run.{Outcome, Step, Ran, ran, taken, advance, run_from}
use Rattle.machine.specs.Along.{Along}
use Rattle.machine.specs.Alike.{AlikeOutcome, AlikeRun}

module _ {W R M R' M' : Type 0} (A : Step W R M) (B : Step W R' M') (Rel : R → M → R' → M' → Type 0) (ok : R' → W → M' → Type 0)
    (each : (r : R) (w : W) (m : M) (r' : R') (m' : M') → Rel r m r' m' → ok r' w m' → AlikeOutcome Rel (A r w m) (B r' w m'))
  where
    taken_alike : (a : Ran R M) (b : Ran R' M') (o : Outcome R M) (p : Outcome R' M') → AlikeRun Rel a b → AlikeOutcome Rel o p → AlikeRun Rel (taken a o) (taken b p)
    taken_alike a b o p s t = rw (ap (λ (n : ℕ). eqb n 0) t.refusal) (go (eqb p.refusal 0))
      where
        go : (c : Bool)
            → AlikeRun Rel
            (cond c (ran 0 (a.index + 1) ((a.sum + o.passed) % 2 ^ 64) o.registers o.memories) (ran o.refusal a.index a.sum a.registers a.memories))
            (cond c (ran 0 (b.index + 1) ((b.sum + p.passed) % 2 ^ 64) p.registers p.memories) (ran p.refusal b.index b.sum b.registers b.memories))
        go true =
            record {
              refusal = refl;
              index = ap (λ (n : ℕ). n + 1) s.index;
              sum = ap₂ (λ (n k : ℕ). (n + k) % 2 ^ 64) s.sum t.passed;
              state = t.state;
            }
        go false = record { refusal = t.refusal; index = s.index; sum = s.sum; state = s.state }

    advance_alike : (a : Ran R M) (b : Ran R' M') (w : W) → AlikeRun Rel a b → (b.refusal ≡ 0 → ok b.registers w b.memories)
        → AlikeRun Rel (advance A a w) (advance B b w)
    unfolding advance
    advance_alike a b w s h = rw (ap (λ (n : ℕ). eqb n 0) s.refusal) (go (eqb b.refusal 0) refl)
      where
        go : (c : Bool) → eqb b.refusal 0 ≡ c
            → AlikeRun Rel (cond c (taken a (A a.registers w a.memories)) a) (cond c (taken b (B b.registers w b.memories)) b)
        go true e =
            taken_alike a b (A a.registers w a.memories) (B b.registers w b.memories) s
            (each a.registers w a.memories b.registers b.memories s.state (h (eqb-true b.refusal 0 e)))
        go false e = s

    -- runs over the same words, if each of those that the second comes to is such as `ok` says
    pub runs_alike : (ws : List W) (a : Ran R M) (b : Ran R' M') → AlikeRun Rel a b → Along B ok b ws → AlikeRun Rel (run_from A a ws) (run_from B b ws)
    runs_alike [] a b s h = s
    runs_alike (w ∷ ws) a b s h = runs_alike ws (advance A a w) (advance B b w) (advance_alike a b w s h.0) h.1
