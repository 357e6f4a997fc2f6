pub mod on_exact_frac
pub mod on_sn_curve
pub mod on_miner
