use Rattle.std.proofs.Common.{◌⊎◌, ℕ, List, Some, map, refl, sym, subst}
use Rattle.std.specs.String.{string_bytes}
use Rattle.zitilook.specs.declared.words.Asked.{Asked}
use Rattle.zitilook.specs.declared.words.Asked.TheVariants as asked
use Rattle.zitilook.specs.declared.words.Place.TheVariants.{Second, Third}
use Rattle.zitilook.specs.Headline.{Runs}
use Rattle.zitilook.specs.Looks.{FindsNone, Looks, Refuses, found}
use Rattle.network_picture.specs.Pictures.{picture_asked}
use Rattle.record_lines.specs.RecordLines.{lines_asked}
use Rattle.zitilook.specs.Notes.{absent_note, misnamed_note, unknown_note}
use Rattle.zitilook.specs.Words.{word_at}
use Rattle.zitilook.proofs.RunLaws.{doctor_runs, look_runs, refused_runs}
use Rattle.zitilook.proofs.running.run_asked.Goals as goal

pub returns-in-Show : goal.returns-in-Show
returns-in-Show g c =
    let d = g.D.Desk in
    let words = map string_bytes c.args.words.now in
    let listed = c.in-Show.listed in
    let e = c.run_look-in-Show.ensures in
    let looks = subst (λ (w : List ℕ). FindsNone d.tells (d.seen c.args.desk.now) (d.seen c.run_look-in-Show.new.desk) c.run_look-in-Show.result
    ⊎ Looks (λ s. found (absent_note w) (lines_asked listed w s)) d.tells (d.seen c.args.desk.now) (d.seen c.run_look-in-Show.new.desk) c.run_look-in-Show.result)
    c.word_at-third.ensures e.looks in
    record {
      runs = subst (λ (a : Asked). Runs d.tells d.seen d.stopped words (Some a) c.args.desk.now c.run_look-in-Show.new.desk c.run_look-in-Show.result) (sym c.in-Show.is)
          (look_runs d.tells d.seen d.stopped words (asked.Show listed) (λ s. found (absent_note (word_at Third words)) (lines_asked listed (word_at Third words) s))
          c.args.desk.now c.run_look-in-Show.new.desk c.run_look-in-Show.result refl refl looks e.ends);
    }

pub returns-in-PictureOf : goal.returns-in-PictureOf
returns-in-PictureOf g c =
    let d = g.D.Desk in
    let words = map string_bytes c.args.words.now in
    let e = c.run_look-in-PictureOf.ensures in
    let looks = subst (λ (w : List ℕ). FindsNone d.tells (d.seen c.args.desk.now) (d.seen c.run_look-in-PictureOf.new.desk) c.run_look-in-PictureOf.result
    ⊎ Looks (λ s. found (absent_note w) (picture_asked w s)) d.tells (d.seen c.args.desk.now) (d.seen c.run_look-in-PictureOf.new.desk) c.run_look-in-PictureOf.result)
    c.word_at-second.ensures e.looks in
    record {
      runs = subst (λ (a : Asked). Runs d.tells d.seen d.stopped words (Some a) c.args.desk.now c.run_look-in-PictureOf.new.desk c.run_look-in-PictureOf.result) (sym c.in-PictureOf.is)
          (look_runs d.tells d.seen d.stopped words asked.PictureOf (λ s. found (absent_note (word_at Second words)) (picture_asked (word_at Second words) s))
          c.args.desk.now c.run_look-in-PictureOf.new.desk c.run_look-in-PictureOf.result refl refl looks e.ends);
    }

pub returns-in-Unknown : goal.returns-in-Unknown
returns-in-Unknown g c =
    let d = g.D.Desk in
    let words = map string_bytes c.args.words.now in
    let e = c.tell_refused.ensures in
    let told = subst (λ (w : List ℕ). Refuses (unknown_note w) (d.seen c.args.desk.now) (d.seen c.tell_refused.new.desk) c.tell_refused.result)
    c.word_at-second.ensures (e.told (unknown_note c.word_at-second.result.now) c.unknown_note.ensures) in
    record {
      runs = subst (λ (a : Asked). Runs d.tells d.seen d.stopped words (Some a) c.args.desk.now c.tell_refused.new.desk c.tell_refused.result) (sym c.in-Unknown.is)
          (refused_runs d.tells d.seen d.stopped words asked.Unknown (unknown_note (word_at Second words)) c.args.desk.now c.tell_refused.new.desk c.tell_refused.result refl refl told e.ends);
    }

pub returns-in-Misnamed : goal.returns-in-Misnamed
returns-in-Misnamed g c =
    let d = g.D.Desk in
    let words = map string_bytes c.args.words.now in
    let place = c.in-Misnamed.place in
    let e = c.tell_refused-in-Misnamed.ensures in
    let told = subst (λ (w : List ℕ). Refuses (misnamed_note w) (d.seen c.args.desk.now) (d.seen c.tell_refused-in-Misnamed.new.desk) c.tell_refused-in-Misnamed.result)
    c.word_at.ensures (e.told (misnamed_note c.word_at.result.now) c.misnamed_note.ensures) in
    record {
      runs = subst (λ (a : Asked). Runs d.tells d.seen d.stopped words (Some a) c.args.desk.now c.tell_refused-in-Misnamed.new.desk c.tell_refused-in-Misnamed.result) (sym c.in-Misnamed.is)
          (refused_runs d.tells d.seen d.stopped words (asked.Misnamed place) (misnamed_note (word_at place words)) c.args.desk.now c.tell_refused-in-Misnamed.new.desk c.tell_refused-in-Misnamed.result refl refl told e.ends);
    }

pub returns-in-Doctor : goal.returns-in-Doctor
returns-in-Doctor g c =
    let d = g.D.Desk in
    let words = map string_bytes c.args.words.now in
    let e = c.run_doctor.ensures in
    record {
      runs = subst (λ (a : Asked). Runs d.tells d.seen d.stopped words (Some a) c.args.desk.now c.run_doctor.new.desk c.run_doctor.result) (sym c.in-Doctor.is)
          (doctor_runs d.tells d.seen d.stopped words c.args.desk.now c.run_doctor.new.desk c.run_doctor.result e.examines e.ends);
    }
