pub mod SpanLaws
pub mod SlotSpans
pub mod WaysBack
