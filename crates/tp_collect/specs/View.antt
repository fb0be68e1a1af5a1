-- What contracts see of a result's fields.
use Rattle.tp_collect.specs.declared.done.Done.TheInside.{Inside}
use Rattle.tp_collect.specs.DoneValue.{DoneValue}

abbrev pub value_of_done : Inside → DoneValue
value_of_done d = record {
  batch = d.batch;
  packet = d.packet;
  result = d.result.items;
  error = d.error;
  steps = d.steps;
  trace = d.trace.items;
  image = d.image.value;
  bytes = d.bytes.value.items;
}
