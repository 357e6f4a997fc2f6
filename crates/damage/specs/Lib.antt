pub mod exact_frac
pub mod sn_curve
pub mod miner
