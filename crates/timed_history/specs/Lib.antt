-- Histories of the clubs' timed sheets, and what single calls do to them; coins supplied for timed sheets of any capacity.
pub mod Clause
pub mod TimedSupply
pub mod TimedSheets
