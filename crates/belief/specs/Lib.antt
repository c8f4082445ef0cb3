-- what an operator believes of the picture
pub mod Belief
-- two worked runs that are such as demand 3 supposes
pub mod Worked
-- the picture does not depend on the drawing order, nor a place on any other
pub mod Order
-- the worked run in another order, and runs in which depths are shared
pub mod WorkedOrder
