-- What the code writes of the members of a reply, token by token. Private contracts alone cite it.
use Rattle.std.specs.Prelude.{ℕ, ◌+◌, ◌*◌, nat_le, Bool, true, false, List, [], ◌∷◌, length}
use Rattle.std.specs.List.{list_all}
use Rattle.std.specs.Option.{option_map_or}
use Rattle.json.specs.Token.{Token, key}
use Rattle.json.specs.Tree.{json_tokens}
use Rattle.serde_json.specs.Data.{Data, string, boolean, Members, no_members, member}
use Rattle.serde_json.specs.Written.{outline}
use Rattle.ctrl_model.specs.AddressForm.{is_spelling}
use Rattle.ctrl_model.specs.Words.{word_of}
use Rattle.ctrl_model.specs.declared.replies.Reply.{Reply}
use Rattle.ctrl_model.specs.declared.replies.Reply.TheVariants as reply
use Rattle.reply_codec.specs.declared.members.MemberValue.{MemberValue}
use Rattle.reply_codec.specs.declared.members.MemberValue.TheVariants as value
use Rattle.reply_codec.specs.declared.members.Member.{Member}
use Rattle.reply_codec.specs.ReplyBody.{kind_word, reason_word, natural, naturals, strings, tally_arrays, reach_objects, reply_object}
use Rattle.reply_codec.specs.ReplyLimits.{is_short_reach}

-- The tokens of a value.
abbrev pub tokens_of : Data → List Token
tokens_of d = json_tokens (outline d)

-- The tokens of the body of a reply.
abbrev pub reply_tokens : Reply → List Token
reply_tokens r = option_map_or tokens_of (reply_object r) []

-- Whether a reply tells counts.
abbrev pub is_counts : Reply → Bool
is_counts (reply.Counts circuits grants identities links policies routers services terminators) = true
is_counts _ = false

-- What is written of a value.
abbrev pub said : MemberValue → Data
said (value.Number n) = natural n
said (value.Count n) = natural n
said (value.Flag b) = boolean b
said (value.Word word) = string word.now
said (value.Kind k) = string (kind_word k)
said (value.Field f) = string (word_of f)
said (value.Reason r) = string (reason_word r)
said (value.Name name) = string name.now
said (value.Address address) = string address.now
said (value.Numbers ns) = naturals ns.now
said (value.Names names) = strings names.now
said (value.Tallies ts) = tally_arrays ts.now
said (value.Reaches es) = reach_objects es.now

-- Whether a value keeps its limits: a word has at most 64 bytes, an address is in its one spelling, and entries are short.
abbrev pub fits : MemberValue → Bool
fits (value.Word word) = nat_le (length word.now) 64
fits (value.Address address) = is_spelling address.now
fits (value.Reaches es) = list_all is_short_reach es.now
fits _ = true

-- How many bytes the text of such a value has at most.
abbrev pub most : MemberValue → ℕ
most (value.Number n) = 10
most (value.Count n) = 20
most (value.Flag b) = 5
most (value.Word word) = 386
most (value.Kind k) = 386
most (value.Field f) = 386
most (value.Reason r) = 386
most (value.Name name) = 386
most (value.Address address) = 1_532
most (value.Numbers ns) = 2 + 11 * length ns.now
most (value.Names names) = 2 + 387 * length names.now
most (value.Tallies ts) = 2 + 400 * length ts.now
most (value.Reaches es) = 2 + 3_000 * length es.now

abbrev pub member_fits : Member → Bool
member_fits m = fits m.1

-- The tokens of a key with what stands under it.
abbrev pub member_tokens : Member → List Token
member_tokens m = key m.0.now ∷ tokens_of (said m.1)

-- The members that are written.
abbrev pub members_of : List Member → Members
members_of [] = no_members
members_of (m ∷ ms) = member m.0.now (said m.1) (members_of ms)

-- How many bytes the text of an object of such members has at most.
abbrev pub most_of : List Member → ℕ
most_of [] = 2
most_of (m ∷ ms) = (6 * length m.0.now + 4) + (most m.1 + most_of ms)
