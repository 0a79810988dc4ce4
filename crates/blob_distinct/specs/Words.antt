-- The words that a run along a path is given.
pub use Rattle.blob_choices.specs.Explored.{sentinel_words}
