pub mod call_times
