-- What the texts of a scenario and of a tree give to be judged.
use Rattle.std.specs.Prelude.{◌≡◌, ℕ, List, Option, string_bytes}
use Rattle.lf_sim.specs.Settings.{world_of}
use Rattle.lf_protocol_file.specs.declared.declared.Declared.{Declared}
use Rattle.leastfault.specs.declared.checking.Given.{Given}
use Rattle.leastfault.specs.declared.checking.Given.TheVariants as given
use Rattle.leastfault.specs.declared.reply.Reply.{Reply}
use Rattle.leastfault.specs.Known.{IsTextOf}
use Rattle.leastfault.specs.Replies.{IsCheckReply, IsTreeText, RepliesVerdict}

-- the reply of the check, or what the texts stand for
abbrev pub IsGiven : Option Declared → List ℕ → List ℕ → Given → Type 0
IsGiven known text certificate (given.Refused r) = IsCheckReply known text certificate (string_bytes r.text) r.value
IsGiven known text certificate (given.Both s tree) = IsTextOf known s text × IsTreeText tree certificate

-- the reply to what is given
abbrev pub IsReplyTo : Given → Reply ℕ → Type 0
IsReplyTo (given.Refused r) told = told ≡ r
IsReplyTo (given.Both s tree) told =
    RepliesVerdict (world_of s.setting) s.setting.spec s.formula tree (string_bytes told.text) told.value
