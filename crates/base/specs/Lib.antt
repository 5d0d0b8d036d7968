-- `Pick`: the choice by a test. `BigEndian`: numbers spelled in bytes. `Bits`: masks. `Lists`: what holds of each
-- element, and of each two. `Bytes`: bytes compared.
pub mod Pick
pub mod BigEndian
pub mod Bits
pub mod Lists
pub mod Bytes
