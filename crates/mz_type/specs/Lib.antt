pub mod StatedView
pub mod TypedText
pub mod Typing
pub mod Sizes
pub mod Ready
pub mod Shapes
