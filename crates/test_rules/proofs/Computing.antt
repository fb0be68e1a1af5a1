-- What an example computes with.
use Rattle.tp_step.specs.Effects.{effect}
use Rattle.tp_step.specs.Runs.{start}
use Rattle.tp_state.specs.Kinds.{known, number, pointer, one_word, byte_pointer, below, word_in, byte_in, range, hull}
use Rattle.tp_state.specs.CellRules.{cells_from, with_cells, read}
use Rattle.tp_state.specs.Rules.{one_number, two_numbers, local, words_on, bytes_on, words_further, frame_at, between}
use Rattle.tp_state.specs.Rules.{descheduled, message_in, words_to_send, phase_after, is_move_length, are_apart}
use Rattle.tp_state.specs.Rules.{row_ended_at, rule}
use Rattle.tp_state.specs.After.{entering, after}

unfoldable pub by_computing : Unit {0}
unfolding effect start known number pointer one_word byte_pointer below word_in byte_in range hull cells_from with_cells
    read one_number two_numbers local words_on bytes_on words_further frame_at between descheduled message_in
    words_to_send phase_after is_move_length are_apart row_ended_at rule entering after
by_computing = tt
