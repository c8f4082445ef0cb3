-- The memories that a board is lent stay as long as they were. Assumes nothing.
use Rattle.std.proofs.Common.{◌≡◌, length, refl, ◌∙◌}
use Rattle.board.specs.Bank.{Bank}

-- the memories m are as long as those of m₀
pub record AsLong (m₀ m : Bank) : Type 0 where
  pub first_i : length m.first.i ≡ length m₀.first.i
  pub first_z : length m.first.z ≡ length m₀.first.z
  pub second_i : length m.second.i ≡ length m₀.second.i
  pub second_z : length m.second.z ≡ length m₀.second.z
  pub third_i : length m.third.i ≡ length m₀.third.i
  pub third_z : length m.third.z ≡ length m₀.third.z
  pub fourth_i : length m.fourth.i ≡ length m₀.fourth.i
  pub fourth_z : length m.fourth.z ≡ length m₀.fourth.z

-- at first
pub as_long : (m : Bank) → AsLong m m
as_long m =
    record { first_i = refl; first_z = refl; second_i = refl; second_z = refl; third_i = refl; third_z = refl; fourth_i = refl; fourth_z = refl }

module _ {m₀ m m' : Bank} where
  -- after a call that keeps the length of each of the eight, I before Z
  pub as_long_more : {T : Type 0} → AsLong m₀ m
      → (length m'.first.i ≡ length m.first.i) × ((length m'.first.z ≡ length m.first.z)
      × ((length m'.second.i ≡ length m.second.i) × ((length m'.second.z ≡ length m.second.z)
      × ((length m'.third.i ≡ length m.third.i) × ((length m'.third.z ≡ length m.third.z)
      × ((length m'.fourth.i ≡ length m.fourth.i) × ((length m'.fourth.z ≡ length m.fourth.z) × T)))))))
      → AsLong m₀ m'
  as_long_more so kept =
      record {
        first_i = kept.0 ∙ so.first_i;
        first_z = kept.1.0 ∙ so.first_z;
        second_i = kept.1.1.0 ∙ so.second_i;
        second_z = kept.1.1.1.0 ∙ so.second_z;
        third_i = kept.1.1.1.1.0 ∙ so.third_i;
        third_z = kept.1.1.1.1.1.0 ∙ so.third_z;
        fourth_i = kept.1.1.1.1.1.1.0 ∙ so.fourth_i;
        fourth_z = kept.1.1.1.1.1.1.1.0 ∙ so.fourth_z;
      }
