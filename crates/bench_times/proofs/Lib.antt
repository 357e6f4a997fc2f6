pub mod on_round_times
