-- The numbers of the formats, as numerals: the limits, the words of values, headers and names, the map of a heap's words, the table
-- of counts, and the script of `gen`.
use Rattle.std.specs.Prelude.{◌≡◌, ℕ, ◌+◌, ◌*◌, false}
use Rattle.object_layout.specs.declared.TheConstants as layout
use Rattle.object_layout.specs.declared.values.Value.TheVariants.{Null, Int, Ref}
use Rattle.object_layout.specs.Layout.{header_word, name_word, value_word}
use Rattle.epoch_lattice.specs.declared.TheConstants as lattice
use Rattle.epoch_lattice.specs.declared.Space.TheVariants.{Control, Region}
use Rattle.epoch_lattice.specs.Lattice.{space_index}
use Rattle.heap_words.specs.declared.TheConstants as heap
use Rattle.heap_words.specs.declared.map.Areas.{Areas}
use Rattle.heap_words.specs.Map.{block_at, block_rest, block_words, buffer_start, chains_start, heap_at, page_at, page_words, pool_at, readers_at, rest_words, scratch_at, sets_at, stack_start, total_of}
use Rattle.safepoint_gate.specs.declared.TheConstants as gate
use Rattle.yak_model.specs.declared.TheConstants as model
use Rattle.yak_model.specs.Room.{entry_words, root_words, table_words}
use Rattle.yak_model.specs.Tables.{groups}
use Rattle.yak_io.specs.declared.TheConstants as files
use Rattle.script_text.specs.Commands.{IsIndex, IsInteger, most}
use Rattle.yak.specs.declared.forms.TheConstants.{MAX_ROUNDS}
use Rattle.yak.specs.Forms.{chosen, unset}
use Rattle.yak.specs.Generator.{number_at}

-- what a heap, a script and a count may have at most, and what a count is made with where nothing is told
pub record AreLimits : Type 0 where
  pub threads : (heap.MAX_THREADS ≡ 8) × (layout.MAX_THREADS ≡ 8) × (lattice.MAX_THREADS ≡ 8)
  pub depth : (heap.MAX_DEPTH ≡ 8) × (layout.MAX_DEPTH ≡ 8) × (lattice.MAX_DEPTH ≡ 8)
  pub slots : heap.STACK_SLOTS ≡ 64
  pub entries : heap.BUFFER_ENTRIES ≡ 64
  pub pages : heap.MAX_PAGES ≡ 4096
  pub page : (heap.PAGE_WORDS ≡ 256) × (layout.PAGE_WORDS ≡ 256)
  pub fields : layout.MAX_FIELDS ≡ 253
  pub integers : (layout.MAX_INT ≡ 9223372036854775807) × (most IsInteger ≡ 9223372036854775807)
  pub indices : most IsIndex ≡ 4294967295
  pub made : layout.MAX_SERIAL ≡ 281474976710655
  pub input : files.INPUT_LIMIT ≡ 16777216
  pub word : layout.WORD_LIMIT ≡ 1024
  pub rounds : MAX_ROUNDS ≡ 100000
  pub options : chosen unset ≡ record { workers = 1; task = 64; pages = 4096; feed = false }

-- the words of values, of an object's header and of its name
pub record AreEncodings : Type 0 where
  pub null : value_word Null ≡ 0
  pub integers : (i : ℕ) → value_word (Int i) ≡ 2 * i + 1
  pub references : (a : ℕ) → value_word (Ref (record { 0 = a })) ≡ 2 * (a + 1)
  pub addresses : layout.MAX_ADDRESS ≡ 16777215
  pub headers : (n x : ℕ) → header_word (record { fields = n; space = x }) ≡ 65536 + 256 * x + n
  pub greatest_space : layout.MAX_SPACE ≡ 64
  pub control : space_index Control ≡ 0
  pub regions : (t d : ℕ) → space_index (Region (t + 1) (d + 1)) ≡ 1 + 8 * t + d
  pub names : (t k : ℕ) → name_word (record { thread = t; serial = k }) ≡ t * 281474976710656 + k
  pub object : layout.OBJECT_WORDS ≡ 3

-- a thread's block, from its first word on
pub record AreBlocks (m : Areas) : Type 0 where
  pub depth : heap.DEPTH_WORD ≡ 0
  pub made : heap.MADE_WORD ≡ 1
  pub stack_length : heap.STACK_LENGTH ≡ 2
  pub buffer_length : heap.BUFFER_LENGTH ≡ 3
  pub current : heap.CURRENT_PAGES ≡ 4
  pub stack : stack_start m ≡ 13
  pub buffer : buffer_start m ≡ 77
  pub chains : chains_start m ≡ 141
  pub rest : (block_rest m ≡ 149) × (rest_words m ≡ 3)
  pub all : block_words m ≡ 152

-- where the areas of a heap begin, and where it ends
pub record AreAreas (m : Areas) : Type 0 where
  pub page : page_words m ≡ 256
  pub blocks : (thread : ℕ) → block_at m (thread + 1) ≡ 8 + 152 * thread
  pub table : (page : ℕ) → page_at m page ≡ 8 + 152 * m.threads + 2 * page
  pub pool : pool_at m ≡ 8 + 152 * m.threads + 2 * m.pages
  pub readers : (thread depth : ℕ) → readers_at m (thread + 1) (depth + 1) ≡ 8 + 152 * m.threads + 3 * m.pages + 8 * thread + depth
  pub sets : sets_at m ≡ 8 + 160 * m.threads + 3 * m.pages
  pub scratch : scratch_at m ≡ 8 + 160 * m.threads + 515 * m.pages
  pub heap : heap_at m ≡ 200 + 160 * m.threads + 771 * m.pages
  pub total : total_of m ≡ 200 + 160 * m.threads + 1027 * m.pages

-- the bits of the gate
pub record AreGateBits : Type 0 where
  pub closing : gate.CLOSING ≡ 4294967296
  pub count : gate.COUNT ≡ 4294967295

-- the objects of a table of counts, and the root
pub record AreTables : Type 0 where
  pub buckets : model.BUCKETS ≡ 128
  pub factor : model.HASH_FACTOR ≡ 31
  pub entry : model.ENTRY_FIELDS ≡ 3
  pub group : (model.GROUP_BYTES ≡ 7) × (model.BYTE_VALUES ≡ 256)
  pub longest_key : groups layout.WORD_LIMIT + 1 ≡ 148
  pub root : (model.ROOT_FIELDS ≡ 16) × (root_words ≡ 19)
  pub words : (table_words ≡ 131) × (entry_words ≡ 6)

-- the numbers of the rounds of two generated scripts
pub record AreRounds : Type 0 where
  pub one : number_at 1 1 ≡ 149
  pub three : (number_at 3 1 ≡ 299) × (number_at 3 2 ≡ 22499) × (number_at 3 3 ≡ 49074)

-- all of them
pub record AreNumbers : Type 0 where
  pub limits : AreLimits
  pub encodings : AreEncodings
  pub blocks : (m : Areas) → AreBlocks m
  pub areas : (m : Areas) → AreAreas m
  pub gate : AreGateBits
  pub tables : AreTables
  pub rounds : AreRounds
