use Rattle.epoch_lattice.proofs.Numbers.{number-most, number-own, number-reads_back}
use Rattle.epoch_lattice.proofs.numbering.Goals as goal

pub returns : goal.returns
returns c = record { read_back = number-reads_back; own = number-own; most = number-most }
