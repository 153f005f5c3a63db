-- What `is` of a room_member_count condition asks: the Client-Server API v1.11, "Conditions for push rules",
-- room_member_count; that a number has 1 to 15 digits is ours.
use Rattle.std.specs.Prelude.{◌≡◌, ℕ, ◌<◌, ◌≤◌, Bool, ◌&&◌, if◌then◌else◌, nat_eq, nat_le, List, length, drop, codes}
use Rattle.std.specs.Prelude.{Option, Some, None, option_map, IsSomeAnd}
use Rattle.std.specs.Char.{is_ascii_digit}
use Rattle.std.specs.List.{list_all, starts_with}
use Rattle.std.specs.Str.Parse.{digits_value}
use Rattle.mx_cond.specs.declared.count.Comparison.{Comparison}
use Rattle.mx_cond.specs.declared.count.Comparison.TheVariants.{Equal, Below, Above, AtLeast, AtMost}
use Rattle.mx_cond.specs.declared.count.MemberCount.{MemberCount}

-- the count stands so to the number
abbrev pub Compares : Comparison → ℕ → ℕ → Type 0
Compares Equal count number = count ≡ number
Compares Below count number = count < number
Compares Above count number = number < count
Compares AtLeast count number = number ≤ count
Compares AtMost count number = count ≤ number

-- a sign, and the text after it
pub record Signed : Type 0 where
  pub comparison : Comparison
  pub number : List ℕ

-- the text after this sign
abbrev pub after_sign : Comparison → List ℕ → List ℕ → Signed
after_sign comparison sign text = record { comparison = comparison; number = drop (length sign) text }

-- the sign with which a text begins, the longer ones before the shorter: no sign means `==`
abbrev pub signed : List ℕ → Signed
signed text =
    if starts_with nat_eq text (codes "==") then after_sign Equal (codes "==") text
    else (if starts_with nat_eq text (codes ">=") then after_sign AtLeast (codes ">=") text
    else (if starts_with nat_eq text (codes "<=") then after_sign AtMost (codes "<=") text
    else (if starts_with nat_eq text (codes "<") then after_sign Below (codes "<") text
    else (if starts_with nat_eq text (codes ">") then after_sign Above (codes ">") text
    else record { comparison = Equal; number = text }))))

-- a text is a number of members where it has 1 to 15 digits, and nothing else
abbrev pub is_number : List ℕ → Bool
is_number text = nat_le 1 (length text) && nat_le (length text) 15 && list_all is_ascii_digit text

-- the number that a text writes, where it is one
abbrev pub number_in : List ℕ → Option ℕ
number_in text = if is_number text then Some (digits_value 10 text) else None

-- how many joined members an optional sign and a number ask for; any other text asks for none
unfoldable pub count_asked : List ℕ → Option MemberCount
count_asked text =
    let asked = signed text in
    option_map (λ number. record { comparison = asked.comparison; number = number }) (number_in asked.number)

-- the number of joined members is as asked
abbrev pub IsAsAsked : Option MemberCount → ℕ → Type 0
IsAsAsked asked joined = IsSomeAnd asked (λ count. Compares count.comparison joined count.number)
