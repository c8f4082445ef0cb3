-- the pixels of a line segment, and what is offered of them
pub mod Segment
-- a line of several visible segments, as it is drawn segment by segment and step by step
pub mod Polyline
-- a segment's steps, by the slope that was computed
pub mod Step
-- how the spot of a step moves
pub mod Course
-- what is carried from step to step of a segment
pub mod Walk
-- what a step is drawn with, by the line mode
pub mod Ink
-- what is asked of a step's pixel before it is drawn
pub mod Field
-- what part of the whole picture a unit of a board has
pub mod Part
-- in which way a loop finds the places of its steps, and how a walk goes on
pub mod Route
