-- Runs of pixels that all have the same two numbers, of which nothing but a nearer depth decides: eight that are read before any of them is written
-- are eight drawn one after the other, since their places differ; and pixels that are drawn again change nothing, since none is nearer than itself.
-- Assumes nothing.
use Rattle.std.proofs.Common.{◌≡◌, ℕ, zero, suc, ◌+◌, ◌-◌, ◌<◌, ◌≤◌, Bool, true, false, cond, ltb, ◌≢◌, List, length, get_or, set, sym, refl, ap, ◌∙◌, ap₂, add-zero, arith, get_or-set_other, get_or-set_same, below_more, ltb-false, le-ltb}
use Rattle.std.proofs.lemmas.List.FromFn.{fill_by_all}
use Rattle.picture.specs.declared.Carried.{Carried}
use Rattle.picture.specs.Picture.{Picture, picture, compared_of}
use Rattle.picture.specs.Draw.{carried_to, steady_of}
use Rattle.picture.specs.Loops.{is_nearer, nearer_at, run_over, for_eight, eight_at, eight_set, each_of, pick_eight, count_eight, sum_of}
use Rattle.picture.proofs.Rows.{nearer_is, nearer_fail, chosen_nearer}
use Rattle.picture.proofs.Runs.{Ran, run_zero, run_suc, run_more, run_z}

-- a number that stays is at each pixel what it is
pub steady_at : (v j : ℕ) → v ≤ 65535 → carried_to (steady_of v) j ≡ v
unfolding carried_to
steady_at v j low = omega arith

-- and so at any two pixels the same
steady_alike : (v j k : ℕ) → carried_to (steady_of v) j ≡ carried_to (steady_of v) k
unfolding carried_to
steady_alike v j k = omega arith

-- ---- one offer, and a place

module _ (at i z : ℕ) (p : Picture) where
  -- an offer leaves no greater depth at its place than its own
  near_depth : at < length p.z → get_or (nearer_at at i z p).z at 0 ≤ z
  unfolding nearer_at
  near_depth fits = rw (nearer_is z (get_or p.z at 0) (ltb z (get_or p.z at 0)) refl) (go (ltb z (get_or p.z at 0)) refl)
    where
      go : (b : Bool) → ltb z (get_or p.z at 0) ≡ b → get_or (cond b (picture (set p.i at i) (set p.z at z) (p.passed + 1)) p).z at 0 ≤ z
      go true t = omega (arith, get_or-set_same p.z at z 0 fits)
      go false t = ltb-false z (get_or p.z at 0) t

  -- and the depth of every other place as it was
  near_other : (x : ℕ) → x ≢ at → get_or (nearer_at at i z p).z x 0 ≡ get_or p.z x 0
  unfolding nearer_at
  near_other x away = go (is_nearer (compared_of z (get_or p.z at 0)))
    where
      go : (b : Bool) → get_or (cond b (picture (set p.i at i) (set p.z at z) (p.passed + 1)) p).z x 0 ≡ get_or p.z x 0
      go true = get_or-set_other p.z at x z 0 away
      go false = refl

  -- where no greater depth stands it does nothing
  near_again : get_or p.z at 0 ≤ z → nearer_at at i z p ≡ p
  near_again low = nearer_fail at i z p.i p.z p.passed (nearer_is z (get_or p.z at 0) false (le-ltb z (get_or p.z at 0) low))

  -- and it counts one at most
  near_passed : (nearer_at at i z p).passed ≤ p.passed + 1
  unfolding nearer_at
  near_passed = go (is_nearer (compared_of z (get_or p.z at 0)))
    where
      go : (b : Bool) → (cond b (picture (set p.i at i) (set p.z at z) (p.passed + 1)) p).passed ≤ p.passed + 1
      go true = omega arith
      go false = omega arith

-- so a run counts no more than its pixels
run_passed : (place : ℕ → ℕ) (i z : Carried) (n : ℕ) (p : Picture) → (run_over place i z n p).passed ≤ p.passed + n
run_passed place i z zero p = omega (arith, ap (λ (q : Picture). q.passed) (run_zero place i z p))
run_passed place i z (suc n) p =
    omega (
      arith,
      ap (λ (q : Picture). q.passed) (run_suc place i z n p),
      near_passed (place n) (carried_to i n) (carried_to z n) (run_over place i z n p),
      run_passed place i z n p,
    )

-- and a loop that has drawn j pixels has counted j at most
pub ran_passed : {place : ℕ → ℕ} {i z : Carried} {im₀ zm₀ im zm : List ℕ} {n j : ℕ} → Ran place i z im₀ zm₀ 0 im zm n j → n ≤ j
ran_passed {place} {i} {z} {im₀} {zm₀} {j = j} r =
    omega (arith, ap (λ (q : Picture). q.passed) r.so, run_passed place i z j (picture im₀ zm₀ 0))

-- ---- pixels that are drawn again

module _ (base i z : ℕ) (low : z ≤ 65535) where
  -- where a run of n pixels has been, no depth is greater than its own
  run_depth : (n : ℕ) (p : Picture) → base + n ≤ length p.z → (j : ℕ) → j < n
      → get_or (run_over (λ k. base + k) (steady_of i) (steady_of z) n p).z (base + j) 0 ≤ z
  run_depth zero p fits j l = absurd (omega (arith, l))
  run_depth (suc n) p fits j l =
      let so_far_lem = run_over (λ k. base + k) (steady_of i) (steady_of z) n p in
      let iw = carried_to (steady_of i) n in
      let zw = carried_to (steady_of z) n in
      rw (run_suc (λ k. base + k) (steady_of i) (steady_of z) n p)
      (below_more (λ k. get_or (nearer_at (base + n) iw zw so_far_lem).z (base + k) 0 ≤ z) n
      (λ k below.
      omega (arith, near_other (base + n) iw zw so_far_lem (base + k) (λ e. absurd (omega (arith, e, below))), run_depth n p (omega (arith, fits)) k below))
      (omega (
        arith,
        steady_at z n low,
        near_depth (base + n) iw zw so_far_lem (omega (arith, fits, run_z (λ k. base + k) (steady_of i) (steady_of z) n p)),
      ))
      j (omega (arith, l)))

  -- pixels of which none is nearer leave the picture as it was
  run_again : (m : ℕ) (p : Picture) → ((j : ℕ) → j < m → get_or p.z (base + j) 0 ≤ z) → run_over (λ k. base + k) (steady_of i) (steady_of z) m p ≡ p
  run_again zero p h = run_zero (λ k. base + k) (steady_of i) (steady_of z) p
  run_again (suc m) p h =
      run_suc (λ k. base + k) (steady_of i) (steady_of z) m p
      ∙ ap (nearer_at (base + m) (carried_to (steady_of i) m) (carried_to (steady_of z) m)) (run_again m p (λ j l. h j (omega (arith, l))))
      ∙ near_again (base + m) (carried_to (steady_of i) m) (carried_to (steady_of z) m) p (omega (arith, steady_at z m low, h m (omega arith)))

-- where the pixels before pixel from + m are drawn, m pixels from pixel `from` on, and then k more, are those k
module _ (base i z from m k : ℕ) (low : z ≤ 65535) (p : Picture) (fits : base + (from + m) ≤ length p.z) where
  run_over_lem : run_over (λ j. base + from + j) (steady_of i) (steady_of z) (m + k) (run_over (λ j. base + j) (steady_of i) (steady_of z) (from + m) p)
      ≡ run_over (λ j. base + j) (steady_of i) (steady_of z) (from + m + k) p
  run_over_lem =
      let here : ℕ → ℕ = λ j. base + from + j in
      let left : ℕ → ℕ = λ j. base + from + (m + j) in
      let q = run_over (λ j. base + j) (steady_of i) (steady_of z) (from + m) p in
      sym (run_more here left (steady_of i) (steady_of z) (steady_of i) (steady_of z) m k (λ j l. (refl, steady_alike i j (m + j), steady_alike z j (m + j))) q)
      ∙ ap (run_over left (steady_of i) (steady_of z) k) (run_again (base + from) i z low m q (λ j l. drawn_depth j l))
      ∙ run_more (λ j. base + j) left (steady_of i) (steady_of z) (steady_of i) (steady_of z) (from + m) k
      (λ j l. (omega arith, steady_alike i j (from + m + j), steady_alike z j (from + m + j))) p
    where
      drawn_depth : (j : ℕ) → j < m → get_or (run_over (λ j. base + j) (steady_of i) (steady_of z) (from + m) p).z (base + from + j) 0 ≤ z
      drawn_depth j l =
          let e : base + from + j ≡ base + (from + j) = omega arith in
          rw e (run_depth base i z low (from + m) p fits (from + j) (omega (arith, l)))

-- ---- eight pixels that are read before any is written

-- so many numbers stored one after the other from a place on
stored : (ℕ → ℕ) → ℕ → ℕ → List ℕ → List ℕ
stored v at zero m = m
stored v at (suc k) m = set (stored v at k m) (at + k) (v k)

-- what lies behind them is as it was
stored_behind : (v : ℕ → ℕ) (at k : ℕ) (m : List ℕ) (x : ℕ) → at + k ≤ x → get_or (stored v at k m) x 0 ≡ get_or m x 0
unfolding stored
stored_behind v at zero m x behind = refl
stored_behind v at (suc k) m x behind =
    get_or-set_other (stored v at k m) (at + k) x (v k) 0 (λ e. absurd (omega (arith, behind, e))) ∙ stored_behind v at k m x (omega (arith, behind))

-- how many of so many tests hold
hits : (ℕ → Bool) → ℕ → ℕ
hits b zero = 0
hits b (suc k) = hits b k + cond (b k) 1 0

-- one more test, counted
one_more : (b : Bool) (n m : ℕ) → n + (m + cond b 1 0) ≡ cond b (n + m + 1) (n + m)
one_more true n m = omega arith
one_more false n m = omega arith

module _ (at i z : ℕ) (im zm : List ℕ) (n : ℕ) (ilow : i ≤ 65535) (zlow : z ≤ 65535) where
  -- whether pixel k passes, and what is chosen for it
  abbrev is_near : ℕ → Bool
  is_near k = ltb z (get_or zm (at + k) 0)

  abbrev new_i_lem : ℕ → ℕ
  new_i_lem k = cond (is_near k) i (get_or im (at + k) 0)

  abbrev new_z_lem : ℕ → ℕ
  new_z_lem k = cond (is_near k) z (get_or zm (at + k) 0)

  -- storing what is chosen for each is drawing them one after the other
  stored_run : (k : ℕ)
      → picture (stored new_i_lem at k im) (stored new_z_lem at k zm) (n + hits is_near k) ≡ run_over (λ j. at + j) (steady_of i) (steady_of z) k (picture im zm n)
  unfolding stored hits
  stored_run zero = ap (λ (m : ℕ). picture im zm m) (add-zero n) ∙ sym (run_zero (λ j. at + j) (steady_of i) (steady_of z) (picture im zm n))
  stored_run (suc k) =
      let zs = stored new_z_lem at k zm in
      let is = stored new_i_lem at k im in
      let depth = sym (stored_behind new_z_lem at k zm (at + k) (omega arith)) in
      let stood = sym (stored_behind new_i_lem at k im (at + k) (omega arith)) in
      (chosen_nearer (at + k) i z is zs (n + hits is_near k) {vi = new_i_lem k} {vz = new_z_lem k} {m = n + hits is_near (suc k)}
      (ap₂ (λ (d s : ℕ). cond (ltb z d) i s) depth stood)
      (ap (λ (d : ℕ). cond (ltb z d) z d) depth)
      (one_more (is_near k) n (hits is_near k) ∙ ap (λ (d : ℕ). cond (ltb z d) (n + hits is_near k + 1) (n + hits is_near k)) depth)
      ).0
      ∙ ap (nearer_at (at + k) i z) (stored_run k)
      ∙ ap₂ (λ (a b : ℕ). nearer_at (at + k) a b (run_over (λ j. at + j) (steady_of i) (steady_of z) k (picture im zm n))) (sym (steady_at i k ilow)) (sym (steady_at z k zlow))
      ∙ sym (run_suc (λ j. at + j) (steady_of i) (steady_of z) k (picture im zm n))

one_counted : (b : Bool) (n : ℕ) → cond b (n + 1) n ≡ n + cond b 1 0
one_counted true n = refl
one_counted false n = sym (add-zero n)

-- eight numbers summed up, one by one
pub eight_sum : (n : List ℕ) → length n ≡ 8
    → sum_of n ≡ get_or n 0 0 + get_or n 1 0 + get_or n 2 0 + get_or n 3 0 + get_or n 4 0 + get_or n 5 0 + get_or n 6 0 + get_or n 7 0
eight_sum n eight =
    let whole : n ≡ for_eight (λ k. get_or n k 0) = fill_by_all (λ k. get_or n k 0) n 8 0 eight (λ k l. refl) in
    ap sum_of whole ∙ omega arith

-- eight counts, each one more where its test holds, sum up to as many more as hold
eight_hits : (b : ℕ → Bool) (n : List ℕ) → length n ≡ 8
    → sum_of (for_eight (λ k. cond (b k) (get_or n k 0 + 1) (get_or n k 0))) ≡ sum_of n + hits b 8
unfolding hits
eight_hits b n eight =
    omega (
      arith,
      eight_sum n eight,
      one_counted (b 0) (get_or n 0 0),
      one_counted (b 1) (get_or n 1 0),
      one_counted (b 2) (get_or n 2 0),
      one_counted (b 3) (get_or n 3 0),
      one_counted (b 4) (get_or n 4 0),
      one_counted (b 5) (get_or n 5 0),
      one_counted (b 6) (get_or n 6 0),
      one_counted (b 7) (get_or n 7 0),
    )

module _ (at i z : ℕ) (im zm n : List ℕ) (eight : length n ≡ 8) (ilow : i ≤ 65535) (zlow : z ≤ 65535) where
  -- so what is chosen for each of eight pixels and stored, and counted for each, is a run of eight
  eight_run : picture (eight_set at (pick_eight z (eight_at at zm) i (eight_at at im)) im) (eight_set at (pick_eight z (eight_at at zm) z (eight_at at zm)) zm)
      (sum_of (count_eight z (eight_at at zm) n))
      ≡ run_over (λ j. at + j) (steady_of i) (steady_of z) 8 (picture im zm (sum_of n))
  unfolding eight_set eight_at each_of stored
  eight_run =
      ap (picture (stored (new_i_lem at i z im zm (sum_of n) ilow zlow) at 8 im) (stored (new_z_lem at i z im zm (sum_of n) ilow zlow) at 8 zm))
      (eight_hits (λ k. ltb z (get_or zm (at + k) 0)) n eight)
      ∙ stored_run at i z im zm (sum_of n) ilow zlow 8

  -- the same of what was read, chosen, stored and counted one after the other
  pub eight_drawn : {deep stood depths numbers n' im' zm' : List ℕ} → deep ≡ eight_at at zm → stood ≡ eight_at at im
      → depths ≡ pick_eight z deep z deep → numbers ≡ pick_eight z deep i stood → zm' ≡ eight_set at depths zm → im' ≡ eight_set at numbers im
      → n' ≡ count_eight z deep n → picture im' zm' (sum_of n') ≡ run_over (λ j. at + j) (steady_of i) (steady_of z) 8 (picture im zm (sum_of n))
  eight_drawn {n' = n'} d s ez ei wz wi c =
      let all_i = wi ∙ ap (λ (v : List ℕ). eight_set at v im) (ei ∙ ap₂ (λ (u v : List ℕ). pick_eight z u i v) d s) in
      let all_z = wz ∙ ap (λ (v : List ℕ). eight_set at v zm) (ez ∙ ap (λ (v : List ℕ). pick_eight z v z v) d) in
      ap₂ (λ (k l : List ℕ). picture k l (sum_of n')) all_i all_z
      ∙ ap (λ (m : List ℕ). picture (eight_set at (pick_eight z (eight_at at zm) i (eight_at at im)) im) (eight_set at (pick_eight z (eight_at at zm) z (eight_at at zm)) zm) (sum_of m))
      (c ∙ ap (λ (v : List ℕ). count_eight z v n) d)
      ∙ eight_run

-- ---- a turn of the loop

module _ (base i z : ℕ) {im₀ zm₀ im zm im' zm' : List ℕ} {n n' done : ℕ} where
  -- a loop that has drawn `done` pixels, and draws eight from pixel `from` on, which is none behind those, has drawn all up to the end of the eight
  pub ran_eight : (from end : ℕ) → Ran (λ j. base + j) (steady_of i) (steady_of z) im₀ zm₀ 0 im zm n done → from ≤ done → done ≤ from + 8
      → base + done ≤ length zm₀ → z ≤ 65535 → end ≡ from + 8
      → picture im' zm' n' ≡ run_over (λ j. base + from + j) (steady_of i) (steady_of z) 8 (picture im zm n)
      → Ran (λ j. base + j) (steady_of i) (steady_of z) im₀ zm₀ 0 im' zm' n' end
  ran_eight from end r before past fits low last e =
      let m = done - from in
      let k = 8 - m in
      let so_far_lem : done ≡ from + m = omega (arith, before) in
      let eight : 8 ≡ m + k = omega (arith, before, past) in
      let all : from + m + k ≡ end = omega (arith, before, past, last) in
      record {
        so =
            e
            ∙ ap (run_over (λ j. base + from + j) (steady_of i) (steady_of z) 8) r.so
            ∙ ap₂ (λ (a b : ℕ). run_over (λ j. base + from + j) (steady_of i) (steady_of z) a (run_over (λ j. base + j) (steady_of i) (steady_of z) b (picture im₀ zm₀ 0))) eight so_far_lem
            ∙ run_over_lem base i z from m k low (picture im₀ zm₀ 0) (omega (arith, fits, so_far_lem))
            ∙ ap (λ (a : ℕ). run_over (λ j. base + j) (steady_of i) (steady_of z) a (picture im₀ zm₀ 0)) all;
      }
