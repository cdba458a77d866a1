-- The numbers of the formats are these numerals.
use Rattle.std.proofs.Common.{refl, arith}
use Rattle.heap_words.specs.declared.map.Areas.{Areas}
use Rattle.yak.specs.Numbers.{AreAreas, AreBlocks, AreEncodings, AreGateBits, AreLimits, AreNumbers, AreRounds, AreTables}

limits : AreLimits
limits = record {
  threads = (refl, refl, refl);
  depth = (refl, refl, refl);
  slots = refl;
  entries = refl;
  pages = refl;
  page = (refl, refl);
  fields = refl;
  integers = (refl, refl);
  indices = refl;
  made = refl;
  input = refl;
  word = refl;
  rounds = refl;
  options = refl;
}

encodings : AreEncodings
encodings = record {
  null = refl;
  integers = λ i. refl;
  references = λ a. refl;
  addresses = refl;
  headers = λ n x. refl;
  greatest_space = refl;
  control = refl;
  regions = λ t d. omega arith;
  names = λ t k. refl;
  object = refl;
}

blocks : (m : Areas) → AreBlocks m
blocks m = record {
  depth = refl;
  made = refl;
  stack_length = refl;
  buffer_length = refl;
  current = refl;
  stack = refl;
  buffer = refl;
  chains = refl;
  rest = (refl, refl);
  all = refl;
}

areas : (m : Areas) → AreAreas m
areas m = record {
  page = refl;
  blocks = λ thread. omega arith;
  table = λ page. omega arith;
  pool = omega arith;
  readers = λ thread depth. omega arith;
  sets = omega arith;
  scratch = omega arith;
  heap = omega arith;
  total = omega arith;
}

gate : AreGateBits
gate = record { closing = refl; count = refl }

tables : AreTables
tables = record {
  buckets = refl;
  factor = refl;
  entry = refl;
  group = (refl, refl);
  longest_key = refl;
  root = (refl, refl);
  words = (refl, refl);
}

rounds : AreRounds
rounds = record { one = refl; three = (refl, refl, refl) }

pub numerals : AreNumbers
numerals = record {
  limits = limits;
  encodings = encodings;
  blocks = blocks;
  areas = areas;
  gate = gate;
  tables = tables;
  rounds = rounds;
}
