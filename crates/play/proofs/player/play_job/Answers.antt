use Rattle.std.proofs.Common.{◌≡◌, List, length, Ok, Err, Result, sym, refl, ap, ◌∙◌, subst}
use Rattle.board.proofs.Whole.{runs}
use Rattle.board.specs.Runs.{Runs}
use Rattle.call.proofs.Passing.{figures_checked}
use Rattle.call.specs.Figures.{Five, figures}
use Rattle.call.specs.declared.call.Call.{Call}
use Rattle.call.specs.declared.fault.JobFault.{JobFault}
use Rattle.job.specs.Jobs.{calls_of}
use Rattle.job.specs.Reading.{Says, reading}
use Rattle.play.proofs.Verdicts.{accepted, refused, opened_as}
use Rattle.play.specs.Playing.{PlaysJob}
use Rattle.play.proofs.player.play_job.Goals as goal

pub returns-in-Ok : goal.returns-in-Ok
returns-in-Ok g c =
    let words = g.P.PageStore.words in
    let ops = g.S.Signature.operations in
    let sentences = g.S.Signature in
    let opened = c.open-job.ensures in
    let ok = accepted (reading c.args.bytes.now) (figures c.in-Ok.figures) (length c.args.answers.now) (opened_as _ _ _ _ _ _ opened.value opened.calls c.in-Ok.ensures) in
    let board = c.open-board.ensures in
    let run = runs words ops (record { puts = sentences.puts; takes_in = sentences.takes_in; clears = sentences.clears }) (figures c.in-Ok.figures) (words c.args.page) c.args.signature c.open-board.result c.play_all-made.new.board (calls_of c.open-job.result) c.args.answers.now c.play_all-made.new.answers (figures_checked c.in-Ok.figures) (ap figures board.figures) board.size board.state board.remembers board.signature c.play_all-made.ensures.plays in
    let calls : calls_of c.open-job.result ≡ ok.what.calls = opened.calls ∙ ok.calls in
    subst (λ (v : Result Says JobFault). PlaysJob words ops c.args.page c.args.signature c.args.answers.now c.play_all-made.new.answers v (Ok (record { board = c.play_all-made.new.board; made = c.play_all-made.result }))) (sym ok.verdict) (
      c.play_all-made.ensures.made ∙ ap length calls,
      subst (λ (cs : List Call). Runs words ops ok.what.figures (words c.args.page) c.args.signature cs c.args.answers.now c.play_all-made.new.answers c.play_all-made.new.board) calls
          (subst (λ (f : Five). Runs words ops f (words c.args.page) c.args.signature (calls_of c.open-job.result) c.args.answers.now c.play_all-made.new.answers c.play_all-made.new.board) ok.figures run),
    )

pub returns-in-Err : goal.returns-in-Err
returns-in-Err g c =
    let words = g.P.PageStore.words in
    let ops = g.S.Signature.operations in
    let opened = c.open-job.ensures in
    let no_job = refused (reading c.args.bytes.now) c.in-Err.fault (length c.args.answers.now) (opened_as _ _ _ _ _ _ opened.value opened.calls c.in-Err.ensures) in
    subst (λ (v : Result Says JobFault). PlaysJob words ops c.args.page c.args.signature c.args.answers.now c.args.answers.now v (Err (record { page = c.args.page; signature = c.args.signature; fault = c.in-Err.fault }))) (sym no_job)
    (refl, refl, refl, refl)
