-- Which answers fit which request: records of the right length, the refusals of a file, and the replies that a halt allows.
use Rattle.std.specs.Prelude.{ℕ, ◌==◌, Bool, true, false, length}
use Rattle.s3_operator.specs.declared.halt_code.HaltCode.{HaltCode}
use Rattle.s3_operator.specs.declared.halt_code.HaltCode.TheVariants.{DuplicateKey, KeyChanged, NothingToUpdate, FileFull, KeyNotAscending}
use Rattle.s3_operator.specs.Replies.{is_allowed}
use Rattle.s3_meaning.specs.Requests.{Request, Answer, Add, Append, Ask, Card, Chain, Done, End, Found, Jump, Nothing, Print, Read, Refused, Reply, Update}

-- ---- which answers fit which request
-- a record of the right length, or none
abbrev pub fits_record : (record_length : ℕ) → Answer → Bool
fits_record record_length (Found bytes) = length bytes == record_length
fits_record record_length Nothing = true
fits_record record_length _ = false

-- done, or refused with one of these codes
abbrev pub fits_done : (refuses : HaltCode → Bool) → Answer → Bool
fits_done refuses Done = true
fits_done refuses (Refused code) = refuses code
fits_done refuses _ = false

-- a printed line and a jump are never refused
abbrev pub refuses_never : HaltCode → Bool
refuses_never code = false

abbrev pub refuses_append : HaltCode → Bool
refuses_append FileFull = true
refuses_append KeyNotAscending = true
refuses_append _ = false

abbrev pub refuses_add : HaltCode → Bool
refuses_add DuplicateKey = true
refuses_add FileFull = true
refuses_add _ = false

abbrev pub refuses_update : HaltCode → Bool
refuses_update NothingToUpdate = true
refuses_update KeyChanged = true
refuses_update _ = false

abbrev pub fits_reply : HaltCode → Answer → Bool
fits_reply code (Reply digit) = is_allowed code digit
fits_reply code _ = false

-- a card has 96 columns; the end of a job has no answer
abbrev pub fits : Request → Answer → Bool
fits Card answer = fits_record 96 answer
fits (Read file record_length) answer = fits_record record_length answer
fits (Chain file record_length sought) answer = fits_record record_length answer
fits (Append file bytes) answer = fits_done refuses_append answer
fits (Add file bytes) answer = fits_done refuses_add answer
fits (Update file current changes) answer = fits_done refuses_update answer
fits (Print page line text) answer = fits_done refuses_never answer
fits Jump answer = fits_done refuses_never answer
fits (Ask code) answer = fits_reply code answer
fits (End at_once) answer = false
