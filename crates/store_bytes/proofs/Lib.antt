pub mod on_segment_bytes
pub mod on_store_head
