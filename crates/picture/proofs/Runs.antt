-- Runs of pixels of which nothing but a nearer depth decides: how a loop goes through them, and that they are what is drawn of a row.
-- Assumes nothing.
use Rattle.std.proofs.Common.{◌≡◌, ℕ, zero, suc, ◌+◌, ◌-◌, ◌*◌, ◌/◌, ◌<◌, ◌≤◌, Bool, true, false, cond, List, length, get_or, set, sym, refl, ap, ◌∙◌, subst, ap₂, add-zero, add-suc, add-one, arith, length-set}
use Rattle.picture.specs.declared.Frame.{Frame}
use Rattle.picture.specs.declared.Pen.{Pen}
use Rattle.picture.specs.declared.Kind.TheVariants.{Gouraud}
use Rattle.picture.specs.declared.Carried.{Carried}
use Rattle.picture.specs.Place.{lies_plain, lies_tiled, layout_of, place_of, is_whole, rows_of, mine, in_memory}
use Rattle.picture.specs.Offer.{Offer, offer}
use Rattle.picture.specs.Picture.{compared_of, Picture, picture, drawn}
use Rattle.picture.specs.Draw.{spans, shown, carried_to, span_offers, nearer_pen}
use Rattle.picture.specs.Loops.{is_nearer, nearer_at, run_over, Beside, along_tiles, Shares, until_own, stridden, own_offers}
use Rattle.picture.proofs.Layouts.{whole_tiles}
use Rattle.picture.proofs.Places.{lies_tiled_lem, rows_whole, place_below, place_beside, place_along, inside_of, plain_mine, tiled_mine}
use Rattle.picture.proofs.Fold.{drawn_nil, drawn_append}
use Rattle.picture.proofs.Spans.{spans_zero, spans_suc}
use Rattle.picture.proofs.Rows.{carried_low, nearer_plain, shown_nearer, seen_nearer}
use Rattle.picture.proofs.Strides.{stride_mine, stride_place, stride_low, own_some, own_room, share_found, share_none, first_mine, stridden_stays}

-- ---- one step keeps the lengths

module _ (at i z : ℕ) (p : Picture) where
  near_i : length (nearer_at at i z p).i ≡ length p.i
  unfolding nearer_at
  near_i = go (is_nearer (compared_of z (get_or p.z at 0)))
    where
      go : (b : Bool) → length (cond b (picture (set p.i at i) (set p.z at z) (p.passed + 1)) p).i ≡ length p.i
      go true = length-set p.i at i
      go false = refl

  near_z : length (nearer_at at i z p).z ≡ length p.z
  unfolding nearer_at
  near_z = go (is_nearer (compared_of z (get_or p.z at 0)))
    where
      go : (b : Bool) → length (cond b (picture (set p.i at i) (set p.z at z) (p.passed + 1)) p).z ≡ length p.z
      go true = length-set p.z at z
      go false = refl

-- ---- pixels one after the other

module _ (place : ℕ → ℕ) (i z : Carried) where
  -- a run of no pixels leaves the picture as it was
  pub run_zero : (p : Picture) → run_over place i z 0 p ≡ p
  unfolding run_over
  run_zero p = refl

  -- a run of one pixel more is the run, and then that pixel at its place with the numbers carried to it
  pub run_suc : (n : ℕ) (p : Picture)
      → run_over place i z (suc n) p ≡ nearer_at (place n) (carried_to i n) (carried_to z n) (run_over place i z n p)
  unfolding run_over
  run_suc n p = refl

  run_i : (n : ℕ) (p : Picture) → length (run_over place i z n p).i ≡ length p.i
  run_i zero p = ap (λ (q : Picture). length q.i) (run_zero p)
  run_i (suc n) p = ap (λ (q : Picture). length q.i) (run_suc n p) ∙ near_i (place n) (carried_to i n) (carried_to z n) (run_over place i z n p) ∙ run_i n p

  -- a run keeps the length of Z
  pub run_z : (n : ℕ) (p : Picture) → length (run_over place i z n p).z ≡ length p.z
  run_z zero p = ap (λ (q : Picture). length q.z) (run_zero p)
  run_z (suc n) p = ap (λ (q : Picture). length q.z) (run_suc n p) ∙ near_z (place n) (carried_to i n) (carried_to z n) (run_over place i z n p) ∙ run_z n p

-- some pixels more, that are a run of their own
pub run_more : (place other : ℕ → ℕ) (i z i' z' : Carried) (k m : ℕ)
    → ((j : ℕ) → j < m → (other j ≡ place (k + j)) × (carried_to i' j ≡ carried_to i (k + j)) × (carried_to z' j ≡ carried_to z (k + j)))
    → (p : Picture) → run_over other i' z' m (run_over place i z k p) ≡ run_over place i z (k + m) p
run_more place other i z i' z' k zero h p =
    run_zero other i' z' (run_over place i z k p) ∙ ap (λ (n : ℕ). run_over place i z n p) (sym (add-zero k))
run_more place other i z i' z' k (suc m) h p =
    let here = h m (omega arith) in
    run_suc other i' z' m (run_over place i z k p)
    ∙ ap (nearer_at (other m) (carried_to i' m) (carried_to z' m)) (run_more place other i z i' z' k m (λ j l. h j (omega (arith, l))) p)
    ∙ ap (λ (a : ℕ). nearer_at a (carried_to i' m) (carried_to z' m) (run_over place i z (k + m) p)) here.0
    ∙ ap₂ (λ (a b : ℕ). nearer_at (place (k + m)) a b (run_over place i z (k + m) p)) here.1 here.2
    ∙ sym (ap (λ (n : ℕ). run_over place i z n p) (add-suc k m) ∙ run_suc place i z (k + m) p)

-- ---- a loop that has drawn j pixels, and counted n

-- the memories and the count are what a run of j pixels makes of those at the start
pub record Ran (place : ℕ → ℕ) (i z : Carried) (im₀ zm₀ : List ℕ) (n₀ : ℕ) (im zm : List ℕ) (n j : ℕ) : Type 0 where
  pub so : picture im zm n ≡ run_over place i z j (picture im₀ zm₀ n₀)

module _ {place : ℕ → ℕ} {i z : Carried} {im₀ zm₀ : List ℕ} {n₀ : ℕ} where
  -- at the start a loop has drawn no pixels
  pub ran_start : Ran place i z im₀ zm₀ n₀ im₀ zm₀ n₀ 0
  ran_start = record { so = sym (run_zero place i z (picture im₀ zm₀ n₀)) }

  module _ {im zm : List ℕ} {n j : ℕ} (r : Ran place i z im₀ zm₀ n₀ im zm n j) where
    -- one more
    pub ran_turn : {im' zm' : List ℕ} {n' at iw zw : ℕ} → at ≡ place j → iw ≡ carried_to i j → zw ≡ carried_to z j
        → picture im' zm' n' ≡ nearer_at at iw zw (picture im zm n) → Ran place i z im₀ zm₀ n₀ im' zm' n' (j + 1)
    ran_turn {iw = iw} {zw = zw} here ei ez e =
        record {
          so =
              e
              ∙ ap (λ (a : ℕ). nearer_at a iw zw (picture im zm n)) here
              ∙ ap₂ (λ (a b : ℕ). nearer_at (place j) a b (picture im zm n)) ei ez
              ∙ ap (nearer_at (place j) (carried_to i j) (carried_to z j)) r.so
              ∙ sym (ap (λ (m : ℕ). run_over place i z m (picture im₀ zm₀ n₀)) (add-one j) ∙ run_suc place i z j (picture im₀ zm₀ n₀));
        }

    -- some more, that are a run of their own
    pub ran_more : (other : ℕ → ℕ) (i' z' : Carried) (m : ℕ) {im' zm' : List ℕ} {n' : ℕ}
        → ((k : ℕ) → k < m → (other k ≡ place (j + k)) × (carried_to i' k ≡ carried_to i (j + k)) × (carried_to z' k ≡ carried_to z (j + k)))
        → picture im' zm' n' ≡ run_over other i' z' m (picture im zm n) → Ran place i z im₀ zm₀ n₀ im' zm' n' (j + m)
    ran_more other i' z' m h e =
        record { so = e ∙ ap (run_over other i' z' m) r.so ∙ run_more place other i z i' z' j m h (picture im₀ zm₀ n₀) }

    -- the lengths are kept
    pub ran_i : length im ≡ length im₀
    ran_i = ap (λ (p : Picture). length p.i) r.so ∙ run_i place i z j (picture im₀ zm₀ n₀)

    -- and so is the length of Z
    pub ran_z : length zm ≡ length zm₀
    ran_z = ap (λ (p : Picture). length p.z) r.so ∙ run_z place i z j (picture im₀ zm₀ n₀)

-- ---- what is drawn of a row

-- offers of which each is one step of that sort
run_drawn : (pen : Pen) (f : ℕ → List Offer) (place : ℕ → ℕ) (i z : Carried) (n : ℕ)
    → ((k : ℕ) → k < n → (p : Picture) → drawn pen (f k) p ≡ nearer_at (place k) (carried_to i k) (carried_to z k) p) → (p : Picture)
    → run_over place i z n p ≡ drawn pen (spans f n) p
run_drawn pen f place i z zero h p = run_zero place i z p ∙ sym (ap (λ (os : List Offer). drawn pen os p) (spans_zero f) ∙ drawn_nil pen p)
run_drawn pen f place i z (suc n) h p =
    run_suc place i z n p
    ∙ ap (nearer_at (place n) (carried_to i n) (carried_to z n)) (run_drawn pen f place i z n (λ k l. h k (omega (arith, l))) p)
    ∙ sym (h n (omega arith) (drawn pen (spans f n) p))
    ∙ sym (ap (λ (os : List Offer). drawn pen os p) (spans_suc f n) ∙ drawn_append pen (spans f n) (f n) p)

-- where every column is the memory's
row_run : (frame : Frame) (rows : ℕ) (place : ℕ → ℕ) (lo hi y : ℕ) (i z : Carried)
    → ((j : ℕ) → j < hi - lo → (in_memory frame rows (lo + j) y ≡ true) × (place j ≡ place_of frame (lo + j) y)) → (p : Picture)
    → run_over place i z (hi - lo) p ≡ drawn (nearer_pen frame) (span_offers (nearer_pen frame) rows Gouraud lo hi y i z) p
unfolding span_offers
row_run frame rows place lo hi y i z h =
    run_drawn (nearer_pen frame) _ place i z (hi - lo)
    (λ j l q.
    seen_nearer (nearer_pen frame) Gouraud (nearer_plain frame) rows (lo + j) y (carried_to i j) (carried_to z j) (carried_low i j) q
    ∙ ap (λ (b : Bool). cond b (nearer_at (place_of frame (lo + j) y) (carried_to i j) (carried_to z j) q) q) (h j l).0
    ∙ ap (λ (a : ℕ). nearer_at a (carried_to i j) (carried_to z j) q) (sym (h j l).1))

module _ (frame : Frame) (lo hi y : ℕ) (i z : Carried) (some : lo < hi) (low : hi ≤ frame.line) where
  -- rows one after the other
  pub plain_beside : {base : ℕ} → lies_plain frame ≡ true → base ≡ place_of frame lo y → base ≤ 4294967295
      → Beside frame lo hi y i z (record { base = base; count = hi - lo; i = i; z = z })
  plain_beside {base} lies here fit =
      record {
        fits = λ ni nz used.
            let last = place_below frame ni nz (hi - 1) y (inside_of frame (rows_of frame ni nz) (hi - 1) y (omega (arith, some, low)) used (plain_mine frame (hi - 1) lies)) in
            let end : lo + (hi - 1 - lo) ≡ hi - 1 = omega (arith, some) in
            let e = ap (λ (b : ℕ). b + (hi - 1 - lo)) here ∙ place_beside frame lo y (hi - 1 - lo) lies ∙ ap (λ (x : ℕ). place_of frame x y) end in
            record { low = fit; i = omega (arith, e, last.0, some); z = omega (arith, e, last.1, some) };
        i_stays = λ stays fits. refl;
        z_stays = λ stays fits. refl;
        same = λ rows used.
            row_run frame rows (λ j. base + j) lo hi y i z
            (λ j l.
            (inside_of frame rows (lo + j) y (omega (arith, l, low)) used (plain_mine frame (lo + j) lies), ap (λ (b : ℕ). b + j) here ∙ place_beside frame lo y j lies));
      }

  -- tiles
  module _ {base : ℕ} (lies : lies_tiled frame ≡ true) (here : base ≡ place_of frame 0 y) where
    along_at : (x : ℕ) → base + along_tiles x ≡ place_of frame x y
    along_at x = ap (λ (b : ℕ). b + along_tiles x) here ∙ place_along frame x y lies

    -- pixels at the places along a row in use are what is drawn of the row from column lo up to and without hi
    pub tiled_run : (rows : ℕ) → y < rows → (p : Picture)
        → run_over (λ j. base + along_tiles (lo + j)) i z (hi - lo) p ≡ drawn (nearer_pen frame) (span_offers (nearer_pen frame) rows Gouraud lo hi y i z) p
    tiled_run rows used =
        row_run frame rows (λ j. base + along_tiles (lo + j)) lo hi y i z
        (λ j l. (inside_of frame rows (lo + j) y (omega (arith, l, low)) used (tiled_mine frame (lo + j) lies), along_at (lo + j)))

    -- whose line length is a whole number of tiles
    pub tiled_fits : (ni nz : ℕ) → y < rows_of frame ni nz → frame.line ≤ 65535
        → (hi ≤ 65532) × (base + along_tiles (hi - 1) < ni) × (base + along_tiles (hi - 1) < nz)
    tiled_fits ni nz used fit =
        let tiles = whole_tiles frame.line (subst (λ k. is_whole k frame.line ≡ true) (lies_tiled_lem frame lies) (rows_whole frame ni nz y used)) in
        let last = place_below frame ni nz (hi - 1) y (inside_of frame (rows_of frame ni nz) (hi - 1) y (omega (arith, some, low)) used (tiled_mine frame (hi - 1) lies)) in
        let e = along_at (hi - 1) in
        (omega (arith, tiles, low, fit), omega (arith, e, last.0), omega (arith, e, last.1))

  -- what a unit has of the row, from its first column on
  module _ (ways : ℕ) (s : Shares frame ways) {first : ℕ} (is : first ≡ until_own ways frame.layout lo) (few : first < ways) where
    -- where its first column is before hi, its pixels lie side by side from there on, and are what is drawn of the row
    pub own_beside : {own base : ℕ} {si sz : Carried} → first < hi - lo → own ≡ (hi - lo - first - 1) / ways + 1 → base ≡ place_of frame (lo + first) y → base ≤ 4294967295
        → si ≡ stridden i first ways → sz ≡ stridden z first ways → Beside frame lo hi y i z (record { base = base; count = own; i = si; z = sz })
    unfolding own_offers
    own_beside {own} {base} {si} {sz} past many here fit ei ez =
        let count = many ∙ own_some first (hi - lo) ways s.few few past in
        let room = subst (λ (n : ℕ). first + ways * n < hi - lo + ways) (sym count) (own_room first (hi - lo) ways s.few few) in
        let own_IsFirst = ap (λ (n : ℕ). mine (layout_of frame) (lo + n)) is ∙ first_mine frame ways lo s in
        record {
          fits = λ ni nz used.
              let x = lo + first + ways * (own - 1) in
              let column = stride_low (lo + first) ways own (own - 1) frame.line (omega (arith, many)) (omega (arith, room, some, low)) in
              let last = place_below frame ni nz x y (inside_of frame (rows_of frame ni nz) x y column used (stride_mine frame ways s (lo + first) (own - 1) ∙ own_IsFirst)) in
              let e = ap (λ (b : ℕ). b + (own - 1)) here ∙ stride_place frame ways s (lo + first) y (own - 1) in
              record { low = fit; i = omega (arith, e, last.0, many); z = omega (arith, e, last.1, many) };
          i_stays = λ stays fits. ei ∙ stridden_stays i first ways stays fits;
          z_stays = λ stays fits. ez ∙ stridden_stays z first ways stays fits;
          same = λ rows used p.
              run_drawn (nearer_pen frame) (λ j. shown (nearer_pen frame) (offer Gouraud (lo + first + ways * j) y (carried_to si j) (carried_to sz j))) (λ j. base + j) si sz own
              (λ j l q.
              shown_nearer (nearer_pen frame) Gouraud (nearer_plain frame) (lo + first + ways * j) y (carried_to si j) (carried_to sz j) (carried_low si j) q
              ∙ ap (λ (a : ℕ). nearer_at a (carried_to si j) (carried_to sz j) q) (sym (ap (λ (b : ℕ). b + j) here ∙ stride_place frame ways s (lo + first) y j)))
              p
              ∙ ap (λ (os : List Offer). drawn (nearer_pen frame) os p) (share_found (nearer_pen frame) ways rows Gouraud lo hi y i z s low used is count ei ez);
        }

    -- before which it has none
    pub none_beside : hi - lo ≤ first → Beside frame lo hi y i z (record { base = 0; count = 0; i = i; z = z })
    none_beside past =
        record {
          fits = λ ni nz used. record { low = omega arith; i = omega arith; z = omega arith };
          i_stays = λ stays fits. refl;
          z_stays = λ stays fits. refl;
          same = λ rows used p.
              run_zero (λ j. 0 + j) i z p
              ∙ sym (ap (λ (os : List Offer). drawn (nearer_pen frame) os p) (share_none (nearer_pen frame) ways rows Gouraud lo hi y i z s low used is few past) ∙ drawn_nil (nearer_pen frame) p);
        }
