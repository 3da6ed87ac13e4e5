-- Policies of which a row says that their names, their relation and the entries of their sides are of the form.
use Rattle.std.proofs.Common.{◌≡◌, Bool, true, false, ◌&&◌}
use Rattle.std.proofs.lemmas.Bool.{false≢true}

-- A service policy, whose row says its relation.
pub said_relation : (long named relates listed result both : Bool) → (long && (named && (relates && listed))) ≡ true → result ≡ both → result ≡ ((named && both) && relates)
said_relation true true true listed result true form is = is
said_relation true true true listed result false form is = is
said_relation true true false listed result both form is = absurd (false≢true form)
said_relation true false relates listed result both form is = absurd (false≢true form)
said_relation false named relates listed result both form is = absurd (false≢true form)

-- A policy of a kind that has one relation.
pub one_relation : (long named listed result both : Bool) → (long && (named && listed)) ≡ true → result ≡ both → result ≡ ((named && both) && true)
one_relation true true listed result true form is = is
one_relation true true listed result false form is = is
one_relation true false listed result both form is = absurd (false≢true form)
one_relation false named listed result both form is = absurd (false≢true form)
