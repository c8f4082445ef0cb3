-- a mean rounded to the nearest lies between the two ends, and is an end at either end
pub mod Rounding
-- what is carried along a segment tells its numbers
pub mod Fixed
-- the first and the last step of a segment are its two points, and each axis has the distance that the slope says
pub mod Segments
-- where one step of a segment is, by the slope that was computed, and that it counts one pixel at most
pub mod Steps
-- where both ends of a segment are inside, no step need ask whether it is offered
pub mod Insides
-- a course tells the spot of each step
pub mod Courses
-- a unit's columns and places are told from the places that the whole picture has in rows
pub mod Parts
-- what holds before step k of a loop over a segment, that a step keeps it, and what it says after the last
pub mod Loops
-- how a walk goes on along its route, and that what it leaves out offers nothing
pub mod Routes
-- of a line's pixel the depth alone decides, where the pen stores whole numbers, and depths where they are tested
pub mod Bare
-- a line that is drawn segment by segment is drawn step by step
pub mod Polylines
-- what a segment offers: pixels of its mode's kind, one at most for each step, with numbers no greater than its vertices'
pub mod Members
