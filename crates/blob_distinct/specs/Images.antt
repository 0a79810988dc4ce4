-- An image that lies in a store at first.
use Rattle.std.specs.Prelude.{ℕ, Vec, String, string_bytes}
use Rattle.std.specs.Global.{Global}
use Rattle.blob_script.specs.Preambles.{Image}

-- its partition, name and bytes
abbrev pub image_of : String Global × Vec ℕ Global × Vec ℕ Global → Image
image_of image = (string_bytes image.0, image.1.items, image.2.items)
