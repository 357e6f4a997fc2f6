mod Preparation
mod Hired
pub mod on_gauge_ring
pub mod on_block_workers
pub mod on_collector
pub mod on_round_accounts
pub mod on_lane_loans
pub mod on_running
pub mod on_round_making
