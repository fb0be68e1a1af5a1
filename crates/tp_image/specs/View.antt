-- The value of an image's fields.
use Rattle.tp_image.specs.declared.fields.Fields.{Fields}
use Rattle.tp_image.specs.declared.image.Image.TheInside.{Inside}
use Rattle.tp_image.specs.Image.{ImageValue}

abbrev pub value_of : Inside → ImageValue
value_of a = record {
  version = a.version;
  workspace = a.workspace;
  start = a.start;
  packet = a.packet;
  result = a.result;
  loops = a.loops.items;
  initial = a.initial.items;
  code = a.code.items;
}

-- the image that fields say
abbrev pub image_said : Fields → ImageValue
image_said a = record {
  version = a.version;
  workspace = a.workspace;
  start = a.start;
  packet = a.packet;
  result = a.result;
  loops = a.loops.items;
  initial = a.initial.items;
  code = a.code.items;
}
