-- For callers' proofs: `Held`, the bytes that a span holds; `Items`, how many items its parts are; `Judging`, the
-- judge's loops. For those of this crate:
-- `Numbers`, a list's numbers, also past its end.
pub mod Held
pub mod Items
pub mod Judging
mod Numbers
