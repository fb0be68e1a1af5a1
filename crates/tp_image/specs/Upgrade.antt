-- A version 1 image as one of version 2.
use Rattle.tp_image.specs.declared.image.Version.TheVariants.{Two}
use Rattle.tp_image.specs.Image.{ImageValue}

-- All fields stay. A version 1 image has no initial words, and gets none.
abbrev pub upgraded : ImageValue → ImageValue
upgraded image = record image { version = Two }
