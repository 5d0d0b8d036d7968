-- `Put`: bytes put into a buffer.
pub mod Put
