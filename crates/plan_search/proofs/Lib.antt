pub mod PlacedJobs
