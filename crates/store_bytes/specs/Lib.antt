pub mod segment_bytes
pub mod store_head
