use Rattle.std.proofs.Common.{[], get_or, inl}
use Rattle.command_requests.specs.declared.input_words.InputFile.{InputFile}
use Rattle.command_facts.specs.Held.{StopsAtInput}
use Rattle.command_pairs.specs.Pairs.{IsInputOfFile}
use Rattle.command_pairs.proofs.PairInputs.{any_at, input_held, input_stops, next_input}
use Rattle.command_facts.proofs.Same.{same_through}
use Rattle.command_requests.proofs.Sizes.{hands_on}
use Rattle.command_pairs.proofs.pair_inputs.load_inputs.Goals as goal

pub returns-in_err-input-clause-refused : goal.returns-in_err-input-clause-refused
returns-in_err-input-clause-refused g c =
    let any_file : InputFile = record { name = record { ref_ptr = (0, 0); now = [] } } in
    let now = g.S.Sources.holds c.loop-file.sources in
    let before = g.S.Sources.holds c.args.sources.now in
    let h = c.in_err-input.field-0.0 in
    hands_on _ h _ c.from_residual.ensures.1
    (inl (any_at (λ file. StopsAtInput (before file.name.now) file.name.now h) c.args.files.now c.loop-file.file-index any_file
    c.loop-file-test.true (input_stops now before c.loop-file.invariant.1 (get_or c.args.files.now c.loop-file.file-index any_file) h
    c.in_err-input.ensures.of_file)))

pub loop-file-preserved : goal.loop-file-preserved
loop-file-preserved g c =
    let any_file : InputFile = record { name = record { ref_ptr = (0, 0); now = [] } } in
    let now = g.S.Sources.holds c.loop-file.sources in
    let before = g.S.Sources.holds c.args.sources.now in
    let one = input_held now before c.loop-file.invariant.1 (get_or c.args.files.now c.loop-file.file-index any_file)
    c.in_ok-input.input.items c.in_ok-input.ensures.held in (
      next_input (IsInputOfFile before) c.args.files.now c.loop-file.file-index any_file c.loop-file.inputs.items c.push.new.self.items
          c.in_ok-input.input c.loop-file-test.true c.loop-file.invariant.0 one c.in-Ok.ensures.items,
      same_through before now (g.S.Sources.holds c.load_input.new.sources) c.load_input.ensures.same c.loop-file.invariant.1,
    )
