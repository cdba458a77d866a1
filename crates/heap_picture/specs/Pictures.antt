-- The picture of a heap.
use Rattle.std.specs.Prelude.{◌≡◌, ℕ, ◌+◌, List, ◌++◌}
use Rattle.std.specs.List.{flat_map, range_with_len}
use Rattle.heap_words.specs.declared.map.Areas.{Areas}
use Rattle.heap_words.specs.Map.{heap_length}
use Rattle.heap_words.specs.Contents.{contents}
use Rattle.epoch_lattice.specs.declared.Space.TheVariants.{Control}
use Rattle.object_layout.specs.declared.replies.Reply.{Reply}
use Rattle.script_text.specs.ScriptContents.{ScriptContents}
use Rattle.script_text.specs.Scripts.{IsScript}
use Rattle.script_runner.specs.Runs.{Held, IsRun}
use Rattle.yak_model.specs.Placed.{space_word, used_mark}
use Rattle.yak_model.specs.Stands.{pages_of}
use Rattle.region_pages.specs.Counts.{free_in, regions_in}
use Rattle.heap_core.specs.Callers.{words_used}
use Rattle.heap_picture.specs.Boxes.{box_of, box_text, boxes_height, caption_text, frame_of, frame_text}
use Rattle.heap_picture.specs.Pages.{owner_of}
use Rattle.heap_picture.specs.declared.boxes.TheConstants.{BASELINE, GAP}
use Rattle.heap_picture.specs.declared.boxes.Caption.{Caption}
use Rattle.heap_picture.specs.declared.boxes.PageBox.{PageBox}

-- the box of a page, as the page table tells the page, and how it is written
abbrev pub page_box : Areas → List (List ℕ) → ℕ → PageBox
page_box m table page = box_of m page (owner_of (space_word table page)) (used_mark table page)

abbrev pub page_text : Areas → List (List ℕ) → ℕ → List ℕ
page_text m table page = box_text (page_box m table page)

-- what stands below the boxes: the pages that are free, of regions and of Control, the words in use, and all words of the pages
abbrev pub caption_of : Areas → List (List ℕ) → Caption
caption_of m table =
    record {
      left = GAP;
      baseline = boxes_height m + BASELINE;
      counts = record { census = record { free = free_in table; region = regions_in table; control = pages_of table Control } };
      used = words_used table;
      all = heap_length m;
    }

-- the picture of a heap of a map with this page table: its size, a box for each page in order, and the counts
abbrev pub picture_of : Areas → List (List ℕ) → List ℕ
picture_of m table =
    frame_text (frame_of m) ++ flat_map (page_text m table) (range_with_len 0 m.pages) ++ caption_text (caption_of m table)

-- the picture of a heap as its words stand
abbrev pub heap_picture : Held → List ℕ
heap_picture held = picture_of held.map (contents held.map held.words).table

-- The bytes are a script, which ran and left a heap, and the text is the picture of that heap.
pub record Draws (bytes text : List ℕ) : Type 0 where
  pub script : ScriptContents
  pub replies : List Reply
  pub held : Held
  pub read : IsScript bytes script
  pub run : IsRun script.heap script.lines replies held
  pub drawn : text ≡ heap_picture held
