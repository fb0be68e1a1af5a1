use Rattle.tpw_text_laws.proofs.ReadBack.{read_back, refused_for_memory}
use Rattle.tpw_text_laws.proofs.laws.written_program_is_read_back.Goals as goal

pub returns-clause-read : goal.returns-clause-read
returns-clause-read c = read_back

pub returns-clause-refused : goal.returns-clause-refused
returns-clause-refused c = refused_for_memory
