-- A segment walked from step to step: how far it moves to the side, and its two numbers, each carried as 2 ^ 48 times itself and a part
-- (picture's `Carried`).
use Rattle.std.specs.Prelude.{◌≡◌, ℕ, ◌+◌, ◌*◌, ◌/◌, ◌%◌, ◌^◌, ◌≤◌, Bool, true}
use Rattle.picture.specs.declared.Carried.{Carried}
use Rattle.picture.specs.declared.Vertex.{Vertex}
use Rattle.picture.specs.Draw.{carried_one, carried_to}
use Rattle.line.specs.declared.slope.Slope.{Slope}
use Rattle.line.specs.declared.walk.Walk.{Walk}
use Rattle.line.specs.declared.walk.Step.{Step}
use Rattle.line.specs.declared.Style.{Style}
use Rattle.line.specs.Segment.{side_at, number_at, first_of}
use Rattle.line.specs.Ink.{joined_in}
use Rattle.line.specs.Step.{OnStep}

-- what is carried tells the number of each step of n between two numbers
pub record Tells (n first second : ℕ) (c : Carried) : Type 0 where
  pub told : (k : ℕ) → k ≤ n → carried_to c k ≡ number_at n k first second

-- what a walk along the segment from a to b carries, step by step: a number from 0 to m for the side, and the vertices' numbers where lines have depths
pub record Carries (deep : Bool) (a b : Vertex) (s : Slope) (w : Walk) : Type 0 where
  pub single : w.stride ≡ 1
  pub side : Tells s.n 0 s.m w.side
  pub i : deep ≡ true → Tells s.n a.i b.i w.i
  pub z : deep ≡ true → Tells s.n a.z b.z w.z

-- what is carried at a step is the first number and what each step adds, so many times, modulo 2 ^ 64
pub record Stands (w : Walk) (p : Step) : Type 0 where
  pub side : p.side ≡ (w.side.first + p.k * w.side.add) % 2 ^ 64
  pub i : p.i ≡ (w.i.first + p.k * w.i.add) % 2 ^ 64
  pub z : p.z ≡ (w.z.first + p.k * w.z.add) % 2 ^ 64

-- what is carried over twice as many steps, and a walk of such steps
abbrev pub doubled : Carried → Carried
doubled c = record { first = c.first; add = (c.add + c.add) % 2 ^ 64 }

-- a walk whose stride is twice as long, with twice as much to add
abbrev pub twice_of : Walk → Walk
twice_of w = record { stride = w.stride + w.stride; side = doubled w.side; i = doubled w.i; z = doubled w.z }

-- step 0, and a stride on
abbrev pub start_of : Walk → Step
start_of w = record { k = 0; side = w.side.first; i = w.i.first; z = w.z.first }

-- the step a stride on, with what a stride adds, modulo 2 ^ 64
abbrev pub next_of : Walk → Step → Step
next_of w p =
    record {
      k = p.k + w.stride;
      side = (p.side + w.side.add) % 2 ^ 64;
      i = (p.i + w.i.add) % 2 ^ 64;
      z = (p.z + w.z.add) % 2 ^ 64;
    }

-- a step of the segment from a to b, where what is carried tells its side
pub record OnWalk (a b : Vertex) (s : Slope) (p : Step) : Type 0 where
  pub on : OnStep a b s p.k
  pub side : p.side / carried_one ≡ side_at s.n s.m p.k

-- and, where lines have depths, its numbers
pub record Numbers (deep : Bool) (a b : Vertex) (s : Slope) (p : Step) : Type 0 where
  pub i : deep ≡ true → p.i / carried_one ≡ number_at s.n p.k a.i b.i
  pub z : deep ≡ true → p.z / carried_one ≡ number_at s.n p.k a.z b.z

-- p is a step that is drawn, or that would be if it had ink
pub record Reaches (style : Style) (deep : Bool) (s : Slope) (a b : Vertex) (p : Step) : Type 0 where
  pub walk : OnWalk a b s p
  pub numbers : Numbers deep a b s p
  pub begun : first_of (joined_in style style.mode) ≤ p.k
