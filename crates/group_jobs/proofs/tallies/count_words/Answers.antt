use Rattle.std.proofs.Common.{◌≡◌, ◌+◌, ◌*◌, ◌≤◌, [], ◌∷◌, ◌++◌, length, refl, ◌∙◌, ap, sym, subst, arith, length-append}
use Rattle.std.proofs.lemmas.List.{append_assoc, append-nil}
use Rattle.yak_model.specs.Room.{entry_words, key_words}
use Rattle.yak_model.specs.Texts.{words_of}
use Rattle.object_layout.specs.declared.TheConstants.{WORD_LIMIT}
use Rattle.group_jobs.specs.Tallies.{KnowsTallies, part_room}
use Rattle.group_jobs.proofs.Aside.{aside_same, tallies_then}
use Rattle.group_jobs.proofs.Grown.{grows_none, within_then}
use Rattle.group_jobs.proofs.Joined.{went_none, went_out, went_then}
use Rattle.group_jobs.proofs.Rooms.{err_of, next_all, next_parts, next_size, next_sum, place_then, push_size, push_sum}
use Rattle.group_jobs.proofs.tallies.count_words.Goals as goal

pub words-init : goal.words-init
words-init g c = let C = g.C.Caller in record {
  passed = [];
  parts = sym c.of-words.ensures;
  went = went_none C.base C.tells C.tells_known C.standing c.args.caller.now;
  place = record { stack = refl; depth = refl; made = omega arith };
  list = grows_none (C.standing c.args.caller.now).list;
  counted = λ known name done doing k t few. subst (KnowsTallies (C.standing c.args.caller.now) known (C.standing c.args.caller.now) (C.knows c.args.caller.now) name done) (sym (append-nil doing)) (known, k, t, aside_same (C.standing c.args.caller.now) (C.standing c.args.caller.now) known refl);
}

pub count_word-requires-clause-tables : goal.count_word-requires-clause-tables
count_word-requires-clause-tables g c =
    let h = c.requires.tables in
    let inv = c.words.invariant in
    let r = inv.counted h.0 h.1 h.2 h.3 h.4 h.5 h.6 in
    let parts = inv.parts ∙ ap (λ ws. inv.passed ++ ws) (c.in-Some.ensures.value) in
    (r.0, h.1, h.2, h.3 ++ inv.passed, r.1, r.2, (let size = next_size (words_of c.args.bytes.now) inv.passed c.next.new.self c.in-Some.word.now parts in omega (arith, size, h.6, length-append h.3 inv.passed)))

pub count_word-requires-clause-word : goal.count_word-requires-clause-word
count_word-requires-clause-word g c =
    let inv = c.words.invariant in
    next_all (λ word. length word ≤ WORD_LIMIT) (words_of c.args.bytes.now) inv.passed c.next.new.self c.in-Some.word.now (inv.parts ∙ ap (λ ws. inv.passed ++ ws) (c.in-Some.ensures.value)) c.requires.short

pub words-preserved : goal.words-preserved
words-preserved g c =
    let C = g.C.Caller in
    let inv = c.words.invariant in
    let word = c.in-Some.word.now in
    let all_of = words_of c.args.bytes.now in
    let parts = inv.parts ∙ ap (λ ws. inv.passed ++ ws) (c.in-Some.ensures.value) in
    let more = push_size inv.passed word in
    let sum = push_sum (λ w. key_words w + entry_words) inv.passed word in
    record {
      passed = inv.passed ++ word ∷ [];
      parts = next_parts all_of inv.passed c.next.new.self word parts;
      went = went_then C.base C.tells C.tells_known C.standing c.args.caller.now c.words.caller c.count_word.new.caller (part_room inv.passed) (key_words word + entry_words) (part_room (inv.passed ++ word ∷ [])) (omega (arith, sum)) inv.went c.in_ok-count_word.ensures.went;
      place = place_then (C.standing c.args.caller.now).own (C.standing c.words.caller).own (C.standing c.count_word.new.caller).own (2 * length inv.passed) 2 (2 * length (inv.passed ++ word ∷ [])) (omega (arith, more)) inv.place c.in_ok-count_word.ensures.place;
      list = within_then (C.standing c.args.caller.now).list (C.standing c.words.caller).list (C.standing c.count_word.new.caller).list inv.list c.count_word.ensures.list;
      counted = λ known name done doing k t few.
          let r = inv.counted known name done doing k t few in
          let size = next_size all_of inv.passed c.next.new.self word parts in
          subst (KnowsTallies (C.standing c.args.caller.now) known (C.standing c.count_word.new.caller) (C.knows c.count_word.new.caller) name done) (append_assoc doing inv.passed (word ∷ []))
          (tallies_then (C.standing c.args.caller.now) (C.standing c.words.caller) (C.standing c.count_word.new.caller) known r.0 (C.knows c.count_word.new.caller) name done ((doing ++ inv.passed) ++ word ∷ []) r.3
          (c.in_ok-count_word.ensures.counted r.0 name done (doing ++ inv.passed) r.1 r.2 (omega (arith, size, few, length-append doing inv.passed))));
    }

pub returns-in_err-count_word-clause-out : goal.returns-in_err-count_word-clause-out
returns-in_err-count_word-clause-out g c =
    let C = g.C.Caller in
    let inv = c.words.invariant in
    let word = c.in-Some.word.now in
    let all_of = words_of c.args.bytes.now in
    let parts = inv.parts ∙ ap (λ ws. inv.passed ++ ws) (c.in-Some.ensures.value) in
    err_of c.from_residual.result _
    (went_out C.base C.tells C.tells_known C.standing c.args.caller.now c.words.caller c.count_word.new.caller (C.standing c.words.caller).own.depth (C.standing c.args.caller.now).own.depth (part_room inv.passed) (key_words word + entry_words) (part_room all_of) (next_sum (λ w. key_words w + entry_words) all_of inv.passed c.next.new.self word parts) (omega (arith, inv.place.depth)) inv.went c.in_err-count_word.ensures.out)

pub returns-clause-counted : goal.returns-clause-counted
returns-clause-counted g c known name done doing k t few =
    let C = g.C.Caller in
    let inv = c.words.invariant in
    let r = inv.counted known name done doing k t few in
    let all : inv.passed ≡ words_of c.args.bytes.now = sym (append-nil inv.passed) ∙ sym (inv.parts ∙ ap (λ ws. inv.passed ++ ws) (c.in_default.ensures.value).0) in
    subst (λ ws. KnowsTallies (C.standing c.args.caller.now) known (C.standing c.words.caller) (C.knows c.words.caller) name done (doing ++ ws)) all r

pub returns-in_err-count_word-clause-list : goal.returns-in_err-count_word-clause-list
returns-in_err-count_word-clause-list g c =
    let C = g.C.Caller in
    let inv = c.words.invariant in
    within_then (C.standing c.args.caller.now).list (C.standing c.words.caller).list (C.standing c.count_word.new.caller).list inv.list c.count_word.ensures.list
