-- How a loop goes through pixels one after the other, with numbers that are carried from each to the next. Assumes nothing.
use Rattle.std.proofs.Common.{◌≡◌, ℕ, ◌+◌, ◌/◌, ◌^◌, ◌<◌, ◌≤◌, List, ap, ◌∙◌, arith}
use Rattle.picture.specs.declared.Pen.{Pen}
use Rattle.picture.specs.declared.Carried.{Carried}
use Rattle.picture.specs.Offer.{Offer}
use Rattle.picture.specs.Picture.{picture, drawn}
use Rattle.picture.specs.Draw.{carried_one, carried_to}
use Rattle.picture.specs.Loops.{after, nearer_at, run_over}
use Rattle.picture.proofs.Spans.{Reached, reached_start, reached_more}
use Rattle.picture.proofs.Rows.{after_none, after_more, after_at, after_to}
use Rattle.picture.proofs.Runs.{Ran, ran_start, ran_turn, ran_more}

-- ---- the numbers

-- of so many pixels the first j are done, the count has grown from n₀ by no more than j, and the numbers that are carried are those of pixel j
pub record Carrying (i z : Carried) (count n₀ : ℕ) (ki kz : Carried) (j n : ℕ) : Type 0 where
  pub until : j ≤ count
  pub few : n ≤ n₀ + j
  pub i_carried : ki ≡ after i j
  pub z_carried : kz ≡ after z j

module _ {i z : Carried} {count n₀ : ℕ} where
  -- before the first pixel nothing is counted, and numbers of 64 bits are carried as they are
  carrying_start : i.first < 2 ^ 64 → z.first < 2 ^ 64 → Carrying i z count n₀ i z 0 n₀
  carrying_start hi hz = record { until = omega arith; few = omega arith; i_carried = after_none i hi; z_carried = after_none z hz }

  module _ {ki kz ki' kz' : Carried} {j n n' : ℕ} (carrying : Carrying i z count n₀ ki kz j n) where
    -- after so many pixels more, of which each passed or did not, what they add is carried on
    carrying_more : (d : ℕ) → j + d ≤ count → ki' ≡ after ki d → kz' ≡ after kz d → n' ≤ n + d → Carrying i z count n₀ ki' kz' (j + d) n'
    carrying_more d left ei ez more =
        record {
          until = left;
          few = omega (arith, carrying.few, more);
          i_carried = ei ∙ ap (λ (c : Carried). after c d) carrying.i_carried ∙ after_more i j d;
          z_carried = ez ∙ ap (λ (c : Carried). after c d) carrying.z_carried ∙ after_more z j d;
        }

module _ {i z ki kz : Carried} {count n₀ j n : ℕ} (carrying : Carrying i z count n₀ ki kz j n) where
  -- the intensity that is carried, without its part, is that of pixel j
  pub carrying_i : {iw : ℕ} → iw ≡ ki.first / carried_one → iw ≡ carried_to i j
  carrying_i e = e ∙ ap (λ (c : Carried). c.first / carried_one) carrying.i_carried ∙ after_at i j

  -- and so is the depth
  pub carrying_z : {zw : ℕ} → zw ≡ kz.first / carried_one → zw ≡ carried_to z j
  carrying_z e = e ∙ ap (λ (c : Carried). c.first / carried_one) carrying.z_carried ∙ after_at z j

-- ---- pixels that any pen draws

-- of so many pixels the first j are drawn, each as f has it, and the numbers are carried from each to the next
pub record Filling (pen : Pen) (f : ℕ → List Offer) (i z : Carried) (count : ℕ) (im₀ zm₀ im zm : List ℕ) (ki kz : Carried) (j n : ℕ) : Type 0 where
  pub carrying : Carrying i z count 0 ki kz j n
  pub so_far_lem : Reached pen f im₀ zm₀ im zm n j

module _ {pen : Pen} {f : ℕ → List Offer} {i z : Carried} {count : ℕ} {im₀ zm₀ : List ℕ} where
  -- before the first pixel nothing is drawn
  pub filling_start : i.first < 2 ^ 64 → z.first < 2 ^ 64 → Filling pen f i z count im₀ zm₀ im₀ zm₀ i z 0 0
  filling_start hi hz = record { carrying = carrying_start hi hz; so_far_lem = reached_start (λ k h. absurd (omega arith)) }

  -- one pixel more is drawn as f has it
  pub filling_more : {im zm im' zm' : List ℕ} {ki kz ki' kz' : Carried} {j n n' : ℕ} → Filling pen f i z count im₀ zm₀ im zm ki kz j n → j < count
      → ki' ≡ after ki 1 → kz' ≡ after kz 1 → n' ≤ n + 1 → picture im' zm' n' ≡ drawn pen (f j) (picture im zm n)
      → Filling pen f i z count im₀ zm₀ im' zm' ki' kz' (j + 1) n'
  filling_more filling left ei ez one e =
      record { carrying = carrying_more filling.carrying 1 (omega (arith, left)) ei ez one; so_far_lem = reached_more filling.so_far_lem e }

-- ---- pixels of which nothing but a nearer depth decides

-- of so many pixels the first j are drawn, each at its place with the numbers that are carried to it
pub record Running (place : ℕ → ℕ) (i z : Carried) (count : ℕ) (im₀ zm₀ : List ℕ) (n₀ : ℕ) (im zm : List ℕ) (ki kz : Carried) (j n : ℕ) : Type 0 where
  pub carrying : Carrying i z count n₀ ki kz j n
  pub so_far_lem : Ran place i z im₀ zm₀ n₀ im zm n j

module _ {place : ℕ → ℕ} {i z : Carried} {count : ℕ} {im₀ zm₀ : List ℕ} {n₀ : ℕ} where
  -- before the first pixel nothing is drawn
  pub running_start : i.first < 2 ^ 64 → z.first < 2 ^ 64 → Running place i z count im₀ zm₀ n₀ im₀ zm₀ i z 0 n₀
  running_start hi hz = record { carrying = carrying_start hi hz; so_far_lem = ran_start }

  module _ {im zm im' zm' : List ℕ} {ki kz ki' kz' : Carried} {j n n' : ℕ} (running : Running place i z count im₀ zm₀ n₀ im zm ki kz j n) where
    -- one pixel more is drawn with the whole parts of what is carried to it
    pub running_more : {at iw zw : ℕ} → j < count → ki' ≡ after ki 1 → kz' ≡ after kz 1 → n' ≤ n + 1
        → at ≡ place j → iw ≡ ki.first / carried_one → zw ≡ kz.first / carried_one → picture im' zm' n' ≡ nearer_at at iw zw (picture im zm n)
        → Running place i z count im₀ zm₀ n₀ im' zm' ki' kz' (j + 1) n'
    running_more left ei ez one here wi wz e =
        let carrying = running.carrying in
        record {
          carrying = carrying_more carrying 1 (omega (arith, left)) ei ez one;
          so_far_lem = ran_turn running.so_far_lem here (carrying_i carrying wi) (carrying_z carrying wz) e;
        }

    -- four pixels more are drawn as a run of their own, from what is carried to the first of them on
    pub running_four : (other : ℕ → ℕ) → j + 4 ≤ count → ki' ≡ after ki 4 → kz' ≡ after kz 4 → n' ≤ n + 4 → ((k : ℕ) → k < 4 → other k ≡ place (j + k))
        → picture im' zm' n' ≡ run_over other ki kz 4 (picture im zm n)
        → Running place i z count im₀ zm₀ n₀ im' zm' ki' kz' (j + 4) n'
    running_four other left ei ez four here e =
        let carrying = running.carrying in
        record {
          carrying = carrying_more carrying 4 left ei ez four;
          so_far_lem =
              ran_more running.so_far_lem other ki kz 4
              (λ k l. (here k l, ap (λ (c : Carried). carried_to c k) carrying.i_carried ∙ after_to i j k, ap (λ (c : Carried). carried_to c k) carrying.z_carried ∙ after_to z j k)) e;
        }
