-- `Read`: what `read` answers. `Walk`: the walk's own refusals, before the shape's.
pub mod Read
pub mod Walk
