use Rattle.std.proofs.Common.{◌≡◌, refl}
use Rattle.channel_frame.specs.declared.frames.FrameFault.TheVariants.{TooLong, BadHeaders}
use Rattle.channel_frame.specs.declared.frames.Front.TheVariants.{Short, Bad, Whole}
use Rattle.channel_frame.specs.WorkedFrames.{ann_frame, ann_bytes, cut_bytes, unmarked_bytes, longest_body, longer_body, negative_body, longer_headers, short_header}
use Rattle.channel_frame.proofs.KindLaws.{are_bytes, bad_headers_bad, bad_headers_none, bad_too_long, bad_unmarked, short_unfinished, too_long_bad}
use Rattle.channel_frame.proofs.worked.worked_kinds.Goals as goal

pub returns-clause-cut : goal.returns-clause-cut
returns-clause-cut c = short_unfinished cut_bytes (are_bytes cut_bytes refl) refl

pub returns-clause-announced : goal.returns-clause-announced
returns-clause-announced c = short_unfinished longest_body (are_bytes longest_body refl) refl

pub returns-clause-marker : goal.returns-clause-marker
returns-clause-marker c = bad_unmarked unmarked_bytes refl

pub returns-clause-body : goal.returns-clause-body
returns-clause-body c = bad_too_long longer_body (are_bytes longer_body refl) refl

pub returns-clause-unsigned_body : goal.returns-clause-unsigned_body
returns-clause-unsigned_body c = bad_too_long negative_body (are_bytes negative_body refl) refl

pub returns-clause-headers : goal.returns-clause-headers
returns-clause-headers c = bad_too_long longer_headers (are_bytes longer_headers refl) refl

pub returns-clause-cut_header : goal.returns-clause-cut_header
returns-clause-cut_header c = bad_headers_none short_header (are_bytes short_header refl) refl

pub returns-clause-at_the_limit : goal.returns-clause-at_the_limit
returns-clause-at_the_limit c = λ is. let stands : Short ≡ Bad TooLong = too_long_bad longest_body is in cc

pub returns-clause-whole : goal.returns-clause-whole
returns-clause-whole c = λ is. let stands : Whole ann_frame 34 ≡ Bad BadHeaders = bad_headers_bad ann_bytes (are_bytes ann_bytes refl) is in cc
