use Rattle.c_values.proofs.Modulo.{wrapped-IsModulo, wrapped-alone, wrapped-inside}
use Rattle.c_values.proofs.laws.conversion_laws.Goals as goal

pub returns : goal.returns
returns c = record { is_modulo = wrapped-IsModulo; is_alone = wrapped-alone; stays = wrapped-inside }
