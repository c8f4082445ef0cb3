-- the I and Z numbers that figures have are of 16 bits
pub mod Numbers
-- offers that stay where they win leave the least depth and the intensity that goes with it
pub mod Ends
-- each offer of a run that is such as is supposed lands
pub mod Lands
-- the order's demand 3 is met
pub mod Demand3
-- what the worked runs offer, as it is computed
pub mod Computed
-- the worked runs end as demand 3 tells
pub mod Worked
-- what the least depth and its intensity mean, in the order's own words
pub mod Sense
-- what stands at a place in the end depends neither on the order of its offers nor on any other place
pub mod Order
-- the worked run in another order ends alike, and the tied ones as demand 3 tells
pub mod WorkedOrder
